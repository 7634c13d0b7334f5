-- `StackLoad::sum`: what is summed and what is still to come make the whole sum.
use native.Mathlib.Omega.{arith}
use Rattle.views.proofs.Loads.{summed_more, summed_end}
use Rattle.views.proofs.loaded.StackLoad.sum.Goals as goal

pub loop-n-preserved : goal.loop-n-preserved
loop-n-preserved c = summed_more _ c.loop-n.invariant (omega arith) c.item_field-sum.ensures.0 c.item_field-sum.ensures.1

pub returns : goal.returns
returns c = summed_end c.loop-n.invariant (omega arith) (omega arith)
