-- `ListedStack::breach_with_item`: the rules are asked one after another.
use Rattle.table.specs.Held.{instance_of}
use Rattle.stackrules.specs.Loaded.{listed_stack}
use Rattle.stackrules.specs.StackRules.{with_item}
use Rattle.stackrules.proofs.First.{KeptTo}
use Rattle.stackrules.proofs.listed_stack.ListedStack.breach_with_item.Given as goal

abbrev pub invariant-loop-rank : goal.invariant-loop-rank
invariant-loop-rank l = KeptTo (with_item (instance_of l.self.manifest.table) (listed_stack l.self) l.n) l.rank
