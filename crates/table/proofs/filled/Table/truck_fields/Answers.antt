-- `Table::truck_fields`: the first words of the truck are its fields.
use Rattle.table.proofs.Access.{truck_whole}
use Rattle.table.proofs.filled.Table.truck_fields.Goals as goal

pub returns : goal.returns
returns c = truck_whole c.args.self.filled c.requires c.truck.ensures c.words_from.ensures
