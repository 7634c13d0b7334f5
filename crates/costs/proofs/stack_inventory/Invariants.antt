-- `costs::stack_inventory`: what is summed is the cost of the items before the current one.
use Rattle.meaning.specs.Table.{instance_in, stacks_in}
use Rattle.table.specs.Filled.{stack_at}
use Rattle.costs.proofs.Costs.{Summed, item_cost, item_bound}
use Rattle.costs.proofs.stack_inventory.Given as goal

abbrev pub invariant-loop-n : goal.invariant-loop-n
invariant-loop-n l = Summed (item_cost (instance_in l.table.named.limits l.table.named.words.now) (stack_at (stacks_in l.table.named.limits l.table.named.words.now) l.s)) item_bound l.items l.n-index l.sum
