-- `costs::inventory_sum`: what is summed is the cost of the stacks before the current one.
use native.Mathlib.Omega.{arith}
use Rattle.table.specs.Filled.{no_stack}
use Rattle.costs.proofs.Costs.{summed_start, summed_more, summed_room, summed_end, plan_bound}
use Rattle.costs.proofs.inventory_sum.Goals as goal

pub loop-s-init : goal.loop-s-init
loop-s-init c = summed_start

pub overflow_add-sum : goal.overflow_add-sum
overflow_add-sum c =
    let room = summed_room no_stack c.loop-s.invariant (omega (arith, c.stack_count-s-end.ensures.0)) c.stack_inventory-sum.ensures.1 in
    omega (arith, room, plan_bound c.args.table.filled)

pub loop-s-preserved : goal.loop-s-preserved
loop-s-preserved c =
    let r = c.stack_inventory-sum in
    summed_more no_stack c.loop-s.invariant (omega (arith, c.stack_count-s-end.ensures.0)) r.ensures.1 r.ensures.0

pub returns : goal.returns
returns c =
    let all = summed_end c.loop-s.invariant (omega (arith, c.stack_count-s-end.ensures.0)) in
    (all.0, omega (arith, all.1, plan_bound c.args.table.filled))
