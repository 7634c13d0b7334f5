-- What was found so far is whether the number is repeated in the rows passed.
use mathlib.Core.Path.{◌≡◌}
use Rattle.meaning.specs.Lists.{listed}
use Rattle.ranges.specs.Ranges.{row_numbers}
use Rattle.ranges.proofs.is_repeated.Given as goal

abbrev pub invariant-loop-k : goal.invariant-loop-k
invariant-loop-k l = l.repeated ≡ listed l.number (row_numbers l.k l.part)
