-- `Table::stack_field`: the word is the field of the stack, within its range.
use Rattle.table.proofs.Access.{stack_read}
use Rattle.table.proofs.filled.Table.stack_field.Goals as goal

pub returns : goal.returns
returns c = stack_read c.args.self.filled c.requires.0 c.stack-words.ensures c.args.field c.requires.1
