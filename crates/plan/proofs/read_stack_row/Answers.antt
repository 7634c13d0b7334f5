-- The row of a stack: its line is stored there, tested there and judged.
use mathlib.Core.Path.{◌≡◌, refl, ◌∙◌}
use mathlib.Core.Bool.{not, ◌&&◌}
use Prim.Native.Nat.{◌*◌, ◌+◌, ◌-◌}
use native.Mathlib.Omega.{arith}
use lib.ListN.{length}
use borrow.Rule.Slice.PartMut.{mid_len}
use Rattle.std.specs.Prelude.{Ok}
use Rattle.meaning.specs.Reader.{line}
use Rattle.meaning.specs.Files.{stack_line}
use Rattle.ranges.specs.Ranges.{row_numbers}
use Rattle.plan.specs.Words.{spliced}
use Rattle.plan.proofs.Splices.{put_spliced}
use Rattle.lines.proofs.Follow.{read_within}
use Rattle.lines.proofs.Judging.{full_read}
use Rattle.plan.proofs.Judging.{stack_refuses_largest, both_made, one_made, row_fits}
use Rattle.plan.proofs.read_stack_row.Goals as goal
use Rattle.plan.proofs.read_stack_row.Goals.{then-in_range, else-in_range}

pub returns : goal.returns
returns c =
    let tested : c.if-in_range.judged ≡ (c.stack_in_range-in_range.result && not c.is_repeated-repeated.result) =
    elim c.if-in_range.branch [ then-in_range w ↦ both_made _ w.if-in_range.true w.judged-is | else-in_range w ↦ one_made _ w.if-in_range.false w.judged-is ] in
    let at = 8 * c.args.k in
    let size = at + 6 - at in
    let f = stack_line c.args.counts.trucks (row_numbers c.args.k c.args.part.now) in
    let long : length c.stored_line-stored.new.out ≡ size = c.stored_line-stored.auto.out ∙ mid_len at (at + 6) c.args.part.now (omega arith) in
    let fits = row_fits c.args.part.now c.stored_line-stored.new.out c.args.counts.trucks c.args.k size (omega arith) long (omega arith) in
    let ok : c.if-in_range.judged ≡ f.fits c.stored_line-stored.new.out = rw (c.stack_in_range-in_range.ensures, c.is_repeated-repeated.ensures, fits) at tested in
    let says = c.stored_line-stored.ensures.says f refl refl (omega (arith, c.stored_line-stored.auto.out)) (stack_refuses_largest c.args.counts.trucks _ (omega arith)) in
    rw (put_spliced at c.args.part.now c.stored_line-stored.new.out size long, c.judged.ensures)
    (read_within (line f) (λ ns. ns) (Ok c.args.here) _ c.stored_line-stored.new.out (λ fields. spliced at fields c.args.part.now)
    (full_read c.stored_line-stored.ensures (omega arith) f says c.if-in_range.judged ok))
