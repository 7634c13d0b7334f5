-- All numbers are within their bounds, so that no operation overflows, and they are the contract's.
use Rattle.axles.specs.Weights.{middle_holds}
use Rattle.axles.proofs.Signed.{at_most}
use Rattle.axles.proofs.Amounts as amounts
use Rattle.axles.proofs.bounded.Axles.middle_holds.Goals as goal

pub overflow_mul-result-3 : goal.overflow_mul-result-3
overflow_mul-result-3 c = (amounts.tractor c.args.self.bounded).fits

pub overflow_add-result : goal.overflow_add-result
overflow_add-result c = (amounts.middle c.args.self.bounded c.ranges.h c.requires).fits

pub overflow_mul-result-7 : goal.overflow_mul-result-7
overflow_mul-result-7 c = (amounts.middle_most c.args.self.bounded).fits

pub returns : goal.returns
unfolding middle_holds
returns c = at_most (amounts.middle c.args.self.bounded c.ranges.h c.requires) (amounts.middle_most c.args.self.bounded)
