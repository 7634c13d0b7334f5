-- `StackLoad::size`: the height is a difference of two sums, and no item nests deeper than it is high.
use mathlib.Core.Path.{refl}
use Rattle.views.specs.Views.{size_of}
use Rattle.views.proofs.Stacks.{nested_less}
use Rattle.views.proofs.loaded.StackLoad.size.Goals as goal

pub overflow_sub-result : goal.overflow_sub-result
overflow_sub-result c = nested_less c.args.self.table.filled c.args.self.of_items c.sum-heights.ensures.0 c.sum-nested.ensures.0

pub returns : goal.returns
unfolding size_of
returns c = rw (c.sum-weight.ensures.0, c.sum-heights.ensures.0, c.sum-nested.ensures.0) refl
