-- `views::read_position`: the three fields, in their ranges.
use mathlib.Core.Path.{refl}
use Rattle.views.proofs.Bounds.{position_in}
use Rattle.views.proofs.read_position.Goals as goal

pub returns : goal.returns
returns c = rw (c.stack_field.ensures.0, c.stack_field-2.ensures.0, c.stack_field-3.ensures.0) (refl, position_in c.args.table.filled c.args.s c.requires)
