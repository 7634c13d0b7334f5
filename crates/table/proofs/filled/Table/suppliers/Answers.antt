-- `Table::suppliers`: a list that stands behind its count among the words of the truck.
use Rattle.table.proofs.Access.{suppliers_behind, list_room, list_read}
use Rattle.table.proofs.filled.Table.suppliers.Goals as goal

pub counted-requires : goal.counted-requires
counted-requires c = list_room c.args.self.filled c.requires c.truck.ensures suppliers_behind

pub returns : goal.returns
returns c = list_read c.args.self.filled c.requires c.truck.ensures suppliers_behind c.counted.ensures
