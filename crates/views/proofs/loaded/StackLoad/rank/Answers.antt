-- `StackLoad::rank`: each part by its accessor. A load has an entry.
use mathlib.Core.Path.{refl}
use Rattle.views.specs.Views.{rank_of}
use Rattle.views.proofs.loaded.StackLoad.rank.Goals as goal

pub returns : goal.returns
unfolding rank_of
returns c =
    rw (
      c.dock_order.ensures.0,
      c.plant_dock_range-range.ensures,
      c.supplier_order-order.ensures.0,
      c.item_field-dock.ensures.0,
      c.item_field-supplier.ensures.0,
    )
    refl
