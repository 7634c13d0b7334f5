-- Supplier after supplier: those whose docks are a list behind its count do not decide any more.
use mathlib.Core.Path.{◌≡◌, ap, ap₂, ◌∙◌}
use mathlib.Core.Bool.{◌&&◌}
use mathlib.Core.Logic.{⊎_elim}
use Prim.Native.Nat.{◌*◌, ◌≤◌, ◌<◌}
use native.Mathlib.Omega.{arith}
use lib.ListN.{length, get_or, take, length-append, length-drop, length-take}
use lib.Seq.{get_or-take}
use Rattle.std.proofs.lemmas.List.{take_rest}
use Rattle.stored.specs.Parts.{zeros, entries_stored, docks_stored}
use Rattle.stored.proofs.Scan.{place_passed, place_failed, places_passed, more_listed, listed_here, listed_later, row_here, row_later}
use Rattle.stored.proofs.docks_stored.Goals as goal

pub returns-then-not-entries_stored : goal.returns-then-not-entries_stored
unfolding docks_stored
returns-then-not-entries_stored c =
    let k = length c.loop-count.yielded in
    let counts = c.args.counts.now in
    let rows = c.args.rows.now in
    let listed = take c.args.suppliers counts in
    let first = c.in-Some.ensures.steps.0 in
    let second = c.in-Some.ensures.steps.1 in
    let wide : length c.in-Some.row.now ≡ 8 = second.1.1 ∙ c.loop-count.invariant.0 in
    let more : k < c.args.suppliers = omega (arith, more_listed k listed c.loop-count.invariant.1 first, length-take c.args.suppliers counts) in
    let count : c.in-Some.count.now ≡ get_or counts k 0 = listed_here k listed c.loop-count.invariant.1 first ∙ get_or-take c.args.suppliers counts k 0 more in
    let told = c.entries_stored.ensures ∙ ap₂ entries_stored count (row_here 8 k rows _ _ c.loop-count.invariant.2 second.1.0 wide) in
    place_failed c.args.suppliers c.loop-count.invariant.3 more told c.if-not-entries_stored.true _

pub loop-count-preserved : goal.loop-count-preserved
loop-count-preserved c =
    let k = length c.loop-count.yielded in
    let counts = c.args.counts.now in
    let rows = c.args.rows.now in
    let listed = take c.args.suppliers counts in
    let first = c.in-Some.ensures.steps.0 in
    let second = c.in-Some.ensures.steps.1 in
    let wide : length c.in-Some.row.now ≡ 8 = second.1.1 ∙ c.loop-count.invariant.0 in
    let more : k < c.args.suppliers = omega (arith, more_listed k listed c.loop-count.invariant.1 first, length-take c.args.suppliers counts) in
    let count : c.in-Some.count.now ≡ get_or counts k 0 = listed_here k listed c.loop-count.invariant.1 first ∙ get_or-take c.args.suppliers counts k 0 more in
    let told = c.entries_stored.ensures ∙ ap₂ entries_stored count (row_here 8 k rows _ _ c.loop-count.invariant.2 second.1.0 wide) in
    rw length-append (
      second.0 ∙ c.loop-count.invariant.0,
      listed_later k listed c.loop-count.invariant.1 first,
      row_later 8 k rows _ _ c.loop-count.invariant.2 second.1.0 wide,
      place_passed c.args.suppliers c.loop-count.invariant.3 more told c.if-not-entries_stored.false,
    )

pub returns : goal.returns
unfolding docks_stored
returns c =
    let k = length c.loop-count.yielded in
    let counts = c.args.counts.now in
    let rows = c.args.rows.now in
    let n = c.args.suppliers in
    let last : n ≤ k =
    ⊎_elim (λ none. omega (arith, none.1.0, ap length c.loop-count.invariant.1, length-drop k (take n counts), length-take n counts, c.requires))
    (λ none. omega (arith, none.1, c.loop-count.invariant.0, ap length c.loop-count.invariant.2, length-drop (8 * k) rows, c.requires)) c.in-None.ensures.steps
    in
    places_passed n c.loop-count.invariant.3 last (ap₂ ◌&&◌ (c.are_zero.ensures ∙ ap zeros (take_rest counts n)) (c.are_zero-2.ensures ∙ ap zeros (take_rest rows (8 * n))))
