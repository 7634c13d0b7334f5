-- The first item of a code among those that are left is the first among all.
use mathlib.Core.Path.{◌≡◌}
use Prim.Native.Nat.{ℕ, ◌+◌, ◌≤◌}
use lib.ListN.{drop}
use Rattle.meaning.specs.Lists.{order_from, order_in}
use Rattle.ranges.proofs.Clashes.{codes}
use Rattle.ranges.proofs.first_of_code.Given as goal

abbrev pub invariant-loop-passed : goal.invariant-loop-passed
invariant-loop-passed l =
    (count : ℕ) → l.item ≤ count → order_from (l.passed + 1) l.code (drop l.passed (codes l.items count)) ≡ order_in (codes l.items count) l.code
