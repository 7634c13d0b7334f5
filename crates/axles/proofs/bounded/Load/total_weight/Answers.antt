-- What is summed and what is still to come make the whole sum, so it fits.
use Rattle.axles.proofs.Walks.{weighed_more, weighed_end}
use Rattle.axles.proofs.bounded.Load.total_weight.Goals as goal

pub loop-row-preserved : goal.loop-row-preserved
loop-row-preserved c = weighed_more c.loop-row.invariant c.loop-row-test.true

pub returns : goal.returns
returns c = weighed_end c.loop-row.invariant c.loop-row-test.false
