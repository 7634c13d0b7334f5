-- The answer and the words follow from how far the instance is read.
use Rattle.reading.proofs.Filling.{instance_refused, instance_ready, instance_onward}
use borrow.Author.Rules.{rules}
use Rattle.reading.proofs.fill.Goals as goal

pub fill_after_instance-requires : goal.fill_after_instance-requires
fill_after_instance-requires c = (
  instance_ready _ _ _ _ c.read_instance.ensures _ c.in-Ok.is _ _
      (rw c.requires.0 at c.clear.ensures) c.stacks_at-end.ensures c.args.layout.bounded,
  search rules,
  c.requires.2,
)

pub returns-in-Ok : goal.returns-in-Ok
returns-in-Ok c =
    instance_onward _ _ _ _ c.read_instance.ensures _ c.in-Ok.is _ _
    (rw c.requires.0 at c.clear.ensures) c.stacks_at-end.ensures _ _ _ c.fill_after_instance.ensures

pub returns-in-Err : goal.returns-in-Err
returns-in-Err c = instance_refused _ _ _ _ c.read_instance.ensures _ _ _ _ c.in-Err.is c.refused_by.ensures
