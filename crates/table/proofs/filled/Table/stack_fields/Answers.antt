-- `Table::stack_fields`: the first words of the stack are its fields.
use Rattle.table.proofs.Access.{stack_whole}
use Rattle.table.proofs.filled.Table.stack_fields.Goals as goal

pub returns : goal.returns
returns c = stack_whole c.args.self.filled c.requires c.stack.ensures c.words_from.ensures
