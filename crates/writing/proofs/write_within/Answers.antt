-- By its outcomes: a buffer too short, a table that no files fill, both files written.
use mathlib.Core.Path.{refl, sym, ◌∙◌}
use native.Mathlib.Omega.{arith}
use Rattle.writing.proofs.Outcomes.{told_filled, told_room, stored_short, instance_short, plan_short, unfilled, both_written}
use Rattle.writing.proofs.write_within.Goals as goal

pub returns-then-instance-limits : goal.returns-then-instance-limits
returns-then-instance-limits c = instance_short c.args.limits c.args.t.now c.args.instance.now c.args.plan.now _ (omega arith) refl

pub returns-then-plan-limits : goal.returns-then-plan-limits
returns-then-plan-limits c = plan_short c.args.limits c.args.t.now c.args.instance.now c.args.plan.now _ (omega arith) (omega arith) refl

pub returns-then-not-is_stored : goal.returns-then-not-is_stored
returns-then-not-is_stored c =
    unfilled c.args.limits c.args.t.now c.args.instance.now c.args.plan.now (omega arith) (omega arith) _ (sym c.is_stored.ensures ∙ c.if-not-is_stored.true) refl

pub invariant_of-named : goal.invariant_of-named
invariant_of-named c = record { room = told_room c.requires.bounded _ c.is_stored.ensures c.if-not-is_stored.false }

pub invariant_of-table : goal.invariant_of-table
invariant_of-table c = record { filled = told_filled c.requires.bounded _ c.is_stored.ensures c.if-not-is_stored.false }

pub write_instance-instance_length-requires : goal.write_instance-instance_length-requires
write_instance-instance_length-requires c = omega (arith, stored_short _ _ (sym c.is_stored.ensures ∙ c.if-not-is_stored.false))

pub write_plan-plan_length-requires : goal.write_plan-plan_length-requires
write_plan-plan_length-requires c = omega (arith, stored_short _ _ (sym c.is_stored.ensures ∙ c.if-not-is_stored.false))

pub returns : goal.returns
returns c =
    both_written c.args.limits c.args.t.now c.args.instance.now c.args.plan.now (omega arith) (omega arith) _ _ _ (sym c.is_stored.ensures ∙ c.if-not-is_stored.false) refl
    c.write_instance-instance_length.ensures c.write_plan-plan_length.ensures
