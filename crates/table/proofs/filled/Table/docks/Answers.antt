-- `Table::docks`: the docks of the supplier at this place of the truck's suppliers.
use Rattle.table.proofs.Access.{docks_room, docks_read}
use Rattle.table.proofs.filled.Table.docks.Goals as goal

pub docks_at-requires : goal.docks_at-requires
docks_at-requires c = docks_room c.args.self.filled c.requires.0 c.truck.ensures c.args.supplier c.requires.1 c.requires.2

pub returns : goal.returns
returns c = docks_read c.args.self.filled c.requires.0 c.truck.ensures c.args.supplier c.requires.1 c.requires.2 c.docks_at.ensures
