-- The answer and the words follow from how far the plan is read.
use Rattle.reading.proofs.Filling.{plan_refused, plan_readable}
use Rattle.reading.proofs.fill_plan.Goals as goal

pub returns-in-Ok : goal.returns-in-Ok
returns-in-Ok c =
    plan_readable _ _ _ _ _ _ c.item_count-items.ensures.0 c.truck_count-trucks.ensures.0 c.read_plan.ensures _ _ _
    c.requires.0.filled.range.instance c.requires.0.exactly c.stacks_at-from.ensures c.in-Ok.is

pub returns-in-Err : goal.returns-in-Err
returns-in-Err c =
    plan_refused _ _ _ _ _ _ c.item_count-items.ensures.0 c.truck_count-trucks.ensures.0 c.read_plan.ensures _ _ _ c.in-Err.is c.refused_by.ensures
