-- `ListedStack::breach`: the breach so far is that of the items from the top down, in the end of the whole stack.
use Prim.Native.Nat.{◌-◌}
use lib.ListN.{length}
use Rattle.table.specs.Held.{instance_of}
use Rattle.stackrules.specs.Loaded.{listed_stack}
use Rattle.stackrules.specs.StackRules.{with_item}
use Rattle.stackrules.proofs.First.{FirstFrom}
use Rattle.stackrules.proofs.listed_stack.ListedStack.breach.Given as goal

abbrev pub invariant-loop-n : goal.invariant-loop-n
invariant-loop-n l = FirstFrom (with_item (instance_of l.self.manifest.table) (listed_stack l.self)) l.initial.n-iterator.iter.rest.now (length l.initial.n-iterator.iter.rest.now - length l.yielded) l.first
