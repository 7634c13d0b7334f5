-- `StackLoad::has_plant_dock`: the dock is among all from `from` on exactly when it is among those that are left.
use Prim.Native.Nat.{◌+◌}
use Rattle.table.specs.Held.{instance_of}
use Rattle.views.proofs.Loads.{Passed}
use Rattle.views.proofs.loaded.StackLoad.has_plant_dock.Given as goal

abbrev pub invariant-loop-n : goal.invariant-loop-n
invariant-loop-n l = Passed (instance_of l.self.table) l.self.items.now l.dock l.from (l.from + l.n-index)
