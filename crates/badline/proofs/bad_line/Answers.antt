-- What is handed back are the bytes of the part, which lies within its file.
use Prim.Native.Nat.{◌≤◌}
use lib.ListN.{length}
use Rattle.badline.proofs.Parts.{located_within, within_plan, within_instance}
use Rattle.badline.proofs.bad_line.Goals as goal
use Rattle.badline.proofs.bad_line.Goals.{then-part, else-part}

pub slice_bounds-result-count : goal.slice_bounds-result-count
slice_bounds-result-count c =
    let a = c.args in
    let within = located_within a.instance.now a.plan.now a.number a.line c.locate-part.result c.locate-part.ensures in
    within.forward

pub slice_bounds-result-start : goal.slice_bounds-result-start
slice_bounds-result-start c =
    let a = c.args in
    let within = located_within a.instance.now a.plan.now a.number a.line c.locate-part.result c.locate-part.ensures in
    within.forward

pub slice_bounds-result-end : goal.slice_bounds-result-end
slice_bounds-result-end c =
    let a = c.args in
    let within = located_within a.instance.now a.plan.now a.number a.line c.locate-part.result c.locate-part.ensures in
    let inside : c.locate-part.result.end ≤ length c.if-part.file.now =
    elim c.if-part.branch [
      | then-part w ↦ rw w.file-is (within_plan within w.if-part.true)
      | else-part w ↦ rw w.file-is (within_instance within w.if-part.false)
    ] in
    inside
