-- The table of the code has the ranges of the line.
use mathlib.Core.Path.{◌∙◌}
use native.Mathlib.Omega.{arith}
use Rattle.ranges.proofs.Scan.{within_zip}
use Rattle.ranges.proofs.item_in_range.Goals as goal

pub returns : goal.returns
returns c = rw (← c.saturating_sub-nesting.ensures) (c.in_ranges.ensures ∙ within_zip c.args.fields.now _ (omega arith))
