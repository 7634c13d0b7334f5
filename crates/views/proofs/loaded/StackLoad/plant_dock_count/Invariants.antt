-- `StackLoad::plant_dock_count`: the plant docks of the items from `j` on, each once: a dock is new where no item above has it.
use Rattle.table.specs.Held.{instance_of}
use Rattle.views.proofs.Loads.{Counted}
use Rattle.views.proofs.loaded.StackLoad.plant_dock_count.Given as goal

abbrev pub invariant-loop-j : goal.invariant-loop-j
invariant-loop-j l = Counted (instance_of l.self.table) l.self.items.now l.j l.count
