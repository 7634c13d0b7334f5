-- `StackLoad::plant_dock_range`: the range of the items that were walked over, from the last one down, as its definition has it.
use native.Mathlib.Omega.{arith}
use Rattle.views.proofs.Back.{back_step, back_end}
use Rattle.views.proofs.Loads.{range_start, range_more, range_end}
use Rattle.views.proofs.loaded.StackLoad.plant_dock_range.Goals as goal

pub loop-n-init : goal.loop-n-init
loop-n-init c = range_start _ _ (omega arith)

pub loop-n-preserved : goal.loop-n-preserved
loop-n-preserved c =
    let t = back_step c.args.self.items.now _ _ _ c.loop-n.yielded_by _ _ c.next.ensures.steps 0 c.in-Some.is cc in
    let docks = c.plant_docks-docks.ensures.0 in
    rw t.left (range_more _ _ c.loop-n.invariant t.more docks (rw t.is at c.item_field.ensures.0) c.order_in-order.ensures.0 c.including-range.ensures)

pub returns : goal.returns
returns c = range_end _ _ c.loop-n.invariant (back_end c.args.self.items.now _ _ _ c.loop-n.yielded_by _ _ c.next.ensures.steps c.in-None.is cc)
