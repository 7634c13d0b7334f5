-- All numbers are within their bounds, so that no operation overflows, and they are the contract's.
use Rattle.axles.specs.Weights.{rear_holds}
use Rattle.axles.proofs.Signed.{at_most}
use Rattle.axles.proofs.Amounts as amounts
use Rattle.axles.proofs.bounded.Axles.rear_holds.Goals as goal

pub overflow_sub-result : goal.overflow_sub-result
overflow_sub-result c = (amounts.rear c.args.self.bounded c.requires.1 c.ranges.h c.requires.0).fits

pub returns : goal.returns
unfolding rear_holds
returns c = at_most (amounts.rear c.args.self.bounded c.requires.1 c.ranges.h c.requires.0) (amounts.rear_most c.args.self.bounded)
