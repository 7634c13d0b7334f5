-- A short table stays; of a long one only the named words are lent.
use Rattle.reading.proofs.Outer.{short_read, long_read}
use Rattle.reading.proofs.read_within.Goals as goal

pub returns-then-lent-named : goal.returns-then-lent-named
returns-then-lent-named c = short_read _ _ _ _ _ (rw c.named_words-named.ensures at c.if-lent-named.true) c.refused.ensures

pub returns : goal.returns
returns c = long_read _ _ _ _ c.args.layout.bounded _ _ _ c.named_words-named.ensures c.if-lent-named.false c.read_named.ensures
