-- `pairrules::block_at`: a block is that of each stack in it.
use Rattle.pairrules.proofs.Partners.{block_kept}
use Rattle.pairrules.proofs.block_at.Goals as goal

pub returns-then-on-a : goal.returns-then-on-a
returns-then-on-a c = block_kept c.requires.2 c.if-on-a.true
