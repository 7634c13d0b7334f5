-- `Table::item_field`: the word is the field of the item, within its range.
use Rattle.table.proofs.Access.{item_read}
use Rattle.table.proofs.filled.Table.item_field.Goals as goal

pub returns : goal.returns
returns c = item_read c.args.self.filled c.requires.0 c.item-words.ensures c.args.field c.requires.1
