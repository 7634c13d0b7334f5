-- `Table::products`: a list that stands behind its count among the words of the truck.
use Rattle.table.proofs.Access.{products_behind, list_room, list_read}
use Rattle.table.proofs.filled.Table.products.Goals as goal

pub counted-requires : goal.counted-requires
counted-requires c = list_room c.args.self.filled c.requires c.truck.ensures products_behind

pub returns : goal.returns
returns c = list_read c.args.self.filled c.requires c.truck.ensures products_behind c.counted.ensures
