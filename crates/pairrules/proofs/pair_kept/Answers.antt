-- `pairrules::pair_kept`: each rule is a case of the definition, and its test is the model's.
use mathlib.Core.Path.{◌∙◌}
use Rattle.pairrules.proofs.Reading.{disjoint_is, order_is}
use Rattle.pairrules.proofs.pair_kept.Goals as goal

pub returns-in-Overlap : goal.returns-in-Overlap
returns-in-Overlap c =
    rw c.in-Overlap.is
    (c.disjoint.ensures ∙ disjoint_is c.args.manifest.holds _ _ c.requires.0 c.requires.1)

pub returns-in-Order : goal.returns-in-Order
returns-in-Order c = rw c.in-Order.is (c.in_loading_order.ensures ∙ order_is c.args.manifest.holds _ _ c.requires.0 c.requires.1)
