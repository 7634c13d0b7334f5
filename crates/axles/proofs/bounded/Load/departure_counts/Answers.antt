-- No stack passed so far is on, so the departure counts exactly where one of those left is.
use Rattle.axles.proofs.Walks.{none_on, on_here, none_here}
use Rattle.axles.proofs.bounded.Load.departure_counts.Goals as goal

pub returns-then-is_on : goal.returns-then-is_on
returns-then-is_on c = on_here c.loop-row.invariant c.is_on.ensures c.loop-row-test.true c.if-is_on.true

pub loop-row-preserved : goal.loop-row-preserved
loop-row-preserved c = none_here c.loop-row.invariant c.is_on.ensures c.loop-row-test.true c.if-is_on.false

pub returns : goal.returns
returns c = none_on c.loop-row.invariant c.loop-row-test.false
