-- `LoadedItem::supplier_visited`: an identifier has a loading order exactly when it is listed.
use mathlib.Core.Path.{ap}
use Rattle.meaning.specs.Model.{truck_numbered, truck_of, IU}
use Rattle.table.specs.Held.{instance_of}
use Rattle.stackrules.specs.Loaded.{stack_of, item_of}
use Rattle.stackrules.proofs.Items.{order_listed}
use Rattle.stackrules.proofs.loaded_item.LoadedItem.supplier_visited.Goals as goal

pub returns : goal.returns
returns c =
    let i = instance_of c.args.self.table in
    order_listed (truck_of i (stack_of c.args.self)).suppliers (IU (item_of c.args.self)) (ap (λ n. (truck_numbered i n).suppliers) c.stack_truck-truck.ensures.0)
    c.item_field.ensures.0 c.supplier_order.ensures.0
