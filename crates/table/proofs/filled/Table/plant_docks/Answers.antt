-- `Table::plant_docks`: a list that stands behind its count among the words of the truck.
use Rattle.table.proofs.Access.{plant_docks_behind, list_room, list_read}
use Rattle.table.proofs.filled.Table.plant_docks.Goals as goal

pub counted-requires : goal.counted-requires
counted-requires c = list_room c.args.self.filled c.requires c.truck.ensures plant_docks_behind

pub returns : goal.returns
returns c = list_read c.args.self.filled c.requires c.truck.ensures plant_docks_behind c.counted.ensures
