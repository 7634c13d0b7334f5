-- `StackLoad::has_plant_dock`: the dock is among all from `from` on exactly when it is among those that are left.
use native.Mathlib.Omega.{arith}
use Rattle.views.proofs.Loads.{passed_found, passed_more, passed_end}
use Rattle.views.proofs.loaded.StackLoad.has_plant_dock.Goals as goal

pub returns-then-item_field-dock : goal.returns-then-item_field-dock
returns-then-item_field-dock c = passed_found _ c.loop-n.invariant (omega arith) c.item_field.ensures.0 c.if-item_field-dock.true

pub loop-n-preserved : goal.loop-n-preserved
loop-n-preserved c = passed_more _ c.loop-n.invariant (omega arith) c.item_field.ensures.0 c.if-item_field-dock.false

pub returns : goal.returns
returns c = passed_end c.loop-n.invariant (omega arith)
