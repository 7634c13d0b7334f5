-- `judging::ask_trucks`: what the used trucks from the current place on answer is right, and no truck has stacks on both sides of it.
use mathlib.Core.Path.{refl, ◌∙◌}
use native.Mathlib.Omega.{arith}
use Rattle.judging.proofs.Told.{told_start, truck_before, walk_more, told_end, few_stacks}
use Rattle.judging.proofs.ask_trucks.Goals as goal

pub loop-end-init : goal.loop-end-init
loop-end-init c = (told_start c.stack_count-end.ensures.0, refl, refl)

pub ask_truck-requires : goal.ask_truck-requires
ask_truck-requires c =
    let lengths = c.loop-end.invariant in
    (truck_before c.args.manifest.holds c.loop-end.invariant.0 c.truck_start-start.ensures, omega arith, omega arith)

pub loop-end-preserved : goal.loop-end-preserved
loop-end-preserved c = (
  rw c.joined-found.ensures (walk_more c.args.manifest.holds c.loop-end.invariant.0 c.truck_start-start.ensures _ c.ask_truck.ensures.told c.with_truck-used.ensures),
  c.ask_truck.ensures.lengths.0 ∙ c.loop-end.invariant.1,
  c.ask_truck.ensures.lengths.1 ∙ c.loop-end.invariant.2,
)

pub returns-clause-told : goal.returns-clause-told
returns-clause-told c = told_end c.loop-end.invariant.0 c.loop-end-test.false (few_stacks c.args.manifest.holds.filled)
