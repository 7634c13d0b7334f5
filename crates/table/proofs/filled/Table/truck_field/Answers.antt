-- `Table::truck_field`: the word is the field of the truck, within its range.
use Rattle.table.proofs.Access.{truck_read}
use Rattle.table.proofs.filled.Table.truck_field.Goals as goal

pub returns : goal.returns
returns c = truck_read c.args.self.filled c.requires.0 c.truck-words.ensures c.args.field c.requires.1
