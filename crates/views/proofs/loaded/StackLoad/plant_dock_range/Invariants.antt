-- `StackLoad::plant_dock_range`: the range of the items that were walked over, from the last one down, as its definition has it.
use Prim.Native.Nat.{◌-◌}
use lib.ListN.{length}
use Rattle.meaning.proofs.Lists.{Down}
use Rattle.table.specs.Held.{instance_of}
use Rattle.views.proofs.Loads.{range_over}
use Rattle.views.proofs.loaded.StackLoad.plant_dock_range.Given as goal

abbrev pub invariant-loop-n : goal.invariant-loop-n
invariant-loop-n l = Down (range_over (instance_of l.self.table) l.truck) l.self.items.now (length l.self.items.now - length l.yielded) l.range
