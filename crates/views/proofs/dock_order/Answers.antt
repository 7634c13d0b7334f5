-- `views::dock_order`: the order in the list of the supplier's docks; a supplier that the truck does not visit has none.
use native.Mathlib.Omega.{arith}
use Rattle.meaning.specs.Model.{truck_numbered}
use Rattle.table.specs.Held.{instance_of}
use Rattle.views.proofs.Stacks.{dock_unlisted}
use Rattle.views.proofs.dock_order.Goals as goal

pub returns-then-supplier-eq0 : goal.returns-then-supplier-eq0
returns-then-supplier-eq0 c =
    let a = c.args in
    (dock_unlisted (truck_numbered (instance_of a.table) a.truck).docks a.dock c.if-supplier-eq0.true, omega arith)
