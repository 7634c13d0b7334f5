-- `judging::ask_truck`: what is asked is told of the stacks of the used truck; what is not asked need not be.
use mathlib.Core.Path.{◌≡◌, sym, ◌∙◌}
use mathlib.Core.Bool.{Bool, true, false}
use native.Mathlib.Omega.{arith}
use Rattle.meaning.proofs.Tests.{true≢false}
use Rattle.placement.proofs.Placing.{truck_rows, placed_stacks}
use Rattle.judging.proofs.Told.{truck_told}
use Rattle.judging.proofs.ask_truck.Goals as goal
use Rattle.judging.proofs.ask_truck.Goals.{then-asked, else-asked, then-asked-2, else-asked-2}

-- what is not asked tells nothing
not_asked : {A : Type 0} {asked : Bool} → asked ≡ false → asked ≡ true → A
not_asked none e = absurd (true≢false (sym e ∙ none))

pub truck_placement-placement-requires : goal.truck_placement-placement-requires
truck_placement-placement-requires c =
    let within = c.requires.0.within in
    (truck_rows c.args.manifest.holds c.requires.0, omega (arith, within, c.requires.1), omega (arith, within, c.requires.2))

pub returns-then-asked-3-clause-told : goal.returns-then-asked-3-clause-told
returns-then-asked-3-clause-told c =
    truck_told _ _ _
    (elim c.if-asked.branch [
      | then-asked w ↦ λ e. rw w.single_pair-is w.keeps_single_pair-single_pair.ensures
      | else-asked w ↦ not_asked w.if-asked.false
    ])
    (elim c.if-asked-2.branch [
      | then-asked-2 w ↦ λ e. rw w.placement-is (placed_stacks c.args.manifest.holds c.requires.0 w.truck_placement-placement.ensures.placed)
      | else-asked-2 w ↦ not_asked w.if-asked-2.false
    ])
    (λ e. c.truck_weights-weights.ensures)

pub returns-else-asked-3-clause-told : goal.returns-else-asked-3-clause-told
returns-else-asked-3-clause-told c =
    truck_told _ _ _
    (elim c.if-asked.branch [
      | then-asked w ↦ λ e. rw w.single_pair-is w.keeps_single_pair-single_pair.ensures
      | else-asked w ↦ not_asked w.if-asked.false
    ])
    (elim c.if-asked-2.branch [
      | then-asked-2 w ↦ λ e. rw w.placement-is (placed_stacks c.args.manifest.holds c.requires.0 w.truck_placement-placement.ensures.placed)
      | else-asked-2 w ↦ not_asked w.if-asked-2.false
    ])
    (not_asked c.if-asked-3.false)
