-- `Table::item_fields`: the words of the item are its fields.
use Rattle.table.proofs.Access.{item_whole}
use Rattle.table.proofs.filled.Table.item_fields.Goals as goal

pub returns : goal.returns
returns c = item_whole c.args.self.filled c.requires c.item.ensures
