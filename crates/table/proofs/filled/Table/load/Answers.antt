-- `Table::load`: the words of the loads that the stack's two last words point at.
use native.Mathlib.Omega.{arith}
use Rattle.table.proofs.Access.{load_room, load_read}
use Rattle.table.proofs.filled.Table.load.Goals as goal

pub words_from-requires : goal.words_from-requires
words_from-requires c = omega (arith, load_room c.args.self.filled c.requires c.stack-words.ensures)

pub returns : goal.returns
returns c =
    load_read c.args.self.filled c.requires c.stack-words.ensures c.loads.ensures.0 c.words_from.ensures.0
