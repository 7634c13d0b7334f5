-- The head that passed tells that the counts are within the limits.
use native.Mathlib.Omega.{arith}
use Rattle.stored.proofs.Outcomes.{counted}
use Rattle.stored.proofs.is_stored.Goals as goal

pub instance_stored-requires : goal.instance_stored-requires
instance_stored-requires c = counted _ c.requires _ (omega arith) c.head.ensures.0 c.head_stored.ensures c.if-not-head_stored.false

pub plan_stored-requires : goal.plan_stored-requires
plan_stored-requires c = counted _ c.requires _ (omega arith) c.head.ensures.0 c.head_stored.ensures c.if-not-head_stored.false
