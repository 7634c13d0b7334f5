-- `Trailer::are_in_order`: each stack is asked with those before it, and with those behind it keeps the order anyway.
use Rattle.meaning.proofs.Tests.{iff_trans}
use Rattle.pairrules.proofs.Places.{upto_kept, upto_broken, upto_all}
use Rattle.placement.proofs.Walk.{ordered_two}
use Rattle.placement.proofs.along.Trailer.are_in_order.Goals as goal

pub returns-then-not-is_in_order : goal.returns-then-not-is_in_order
returns-then-not-is_in_order c = iff_trans (upto_broken c.loop-k.invariant c.loop-k-test.true c.is_in_order.ensures c.if-not-is_in_order.true) (ordered_two c.args.self.sorted)

pub loop-k-preserved : goal.loop-k-preserved
loop-k-preserved c = upto_kept c.loop-k.invariant c.loop-k-test.true c.is_in_order.ensures c.if-not-is_in_order.false

pub returns : goal.returns
returns c = iff_trans (upto_all c.loop-k.invariant c.loop-k-test.false) (ordered_two c.args.self.sorted)
