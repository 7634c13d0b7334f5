-- `StackLoad::sum`: what is summed and what is still to come make the whole sum.
use Prim.Native.Nat.{◌+◌}
use lib.ListN.{get_or}
use Rattle.meaning.specs.Model.{item}
use Rattle.table.specs.Filled.{item_most}
use Rattle.table.specs.Held.{instance_of}
use Rattle.views.proofs.Loads.{Summed}
use Rattle.views.proofs.loaded.StackLoad.sum.Given as goal

abbrev pub invariant-loop-n : goal.invariant-loop-n
invariant-loop-n l = Summed (λ k. get_or (item (instance_of l.self.table) k) l.field 0) (item_most l.field) l.self.items.now l.from l.sum (l.from + l.n-index)
