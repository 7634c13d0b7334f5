-- `StackLoad::plant_dock_count`: the plant docks of the items from `j` on, each once: a dock is new where no item above has it.
use mathlib.Core.Path.{refl}
use native.Mathlib.Omega.{arith}
use Rattle.views.proofs.Loads.{counted_start, counted_new, counted_again, counted_end}
use Rattle.views.proofs.loaded.StackLoad.plant_dock_count.Goals as goal

pub loop-j-init : goal.loop-j-init
loop-j-init c = counted_start refl

pub loop-j-preserved-then-not-has_plant_dock : goal.loop-j-preserved-then-not-has_plant_dock
loop-j-preserved-then-not-has_plant_dock c =
    counted_new c.loop-j.invariant (omega arith) c.item_field-dock.ensures.0 c.has_plant_dock.ensures c.if-not-has_plant_dock.true

pub loop-j-preserved : goal.loop-j-preserved
loop-j-preserved c =
    counted_again c.loop-j.invariant (omega arith) c.item_field-dock.ensures.0 c.has_plant_dock.ensures c.if-not-has_plant_dock.false

pub returns : goal.returns
returns c = counted_end c.loop-j.invariant (omega arith) c.args.self.of_items.few
