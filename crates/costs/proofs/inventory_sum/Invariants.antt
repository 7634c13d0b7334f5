-- `costs::inventory_sum`: what is summed is the cost of the stacks before the current one.
use Rattle.meaning.specs.Table.{instance_in, stacks_in}
use Rattle.meaning.specs.Verdict.{inventory_cost}
use Rattle.costs.proofs.Costs.{Summed, stack_bound}
use Rattle.costs.proofs.inventory_sum.Given as goal

abbrev pub invariant-loop-s : goal.invariant-loop-s
invariant-loop-s l = Summed (inventory_cost (instance_in l.table.named.limits l.table.named.words.now)) stack_bound (stacks_in l.table.named.limits l.table.named.words.now) l.s l.sum
