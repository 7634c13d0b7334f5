-- `Table::stack_truck`: the stack's range says that its truck is one.
use Rattle.table.proofs.Access.{truck_of_lem}
use Rattle.table.proofs.filled.Table.stack_truck.Goals as goal

pub returns : goal.returns
returns c = truck_of_lem c.args.self.filled c.args.s c.requires c.stack_field.result c.stack_field.ensures.0
