-- `costs::stack_inventory`: what is summed is the cost of the items before the current one.
use mathlib.Core.Path.{refl, ap, ◌∙◌}
use native.Mathlib.Omega.{arith}
use Rattle.meaning.specs.Model.{truck_numbered, TDA}
use Rattle.meaning.specs.Table.{instance_in, stacks_in}
use Rattle.meaning.specs.Verdict.{inventory_cost}
use Rattle.table.specs.Filled.{stack_at}
use Rattle.costs.proofs.Costs.{summed_start, summed_more, summed_room, summed_end, item_cost_lem, load_bound}
use Rattle.costs.proofs.stack_inventory.Goals as goal

pub loop-n-init : goal.loop-n-init
loop-n-init c = summed_start

pub overflow_add-sum : goal.overflow_add-sum
overflow_add-sum c =
    let room = summed_room 0 c.loop-n.invariant (omega arith) c.item_inventory-sum.ensures.1 in
    omega (arith, room, load_bound c.load-items.result.now, c.load-items.ensures.1.few)

pub loop-n-preserved : goal.loop-n-preserved
loop-n-preserved c =
    let a = c.args in
    let i = instance_in a.table.named.limits a.table.named.words.now in
    let s = stack_at (stacks_in a.table.named.limits a.table.named.words.now) a.s in
    let day = c.truck_field-arrival.ensures.0 ∙ ap (λ n. TDA (truck_numbered i n)) c.stack_truck.ensures.0 in
    summed_more 0 c.loop-n.invariant (omega arith) c.item_inventory-sum.ensures.1 (item_cost_lem i s c.item_inventory-sum.ensures.0 refl day)

pub returns : goal.returns
unfolding inventory_cost
returns c =
    let items = c.load-items in
    let a = c.args in
    let all = summed_end c.loop-n.invariant (omega arith) in
    let same = items.ensures.0 in
    (rw (← same) all.0, rw (← same) (omega (arith, all.1, load_bound items.result.now)))
