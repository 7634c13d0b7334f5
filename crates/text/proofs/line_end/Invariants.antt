-- Where none of the eight bytes from `at` on ends the line, the end that is counted from behind them is the same.
use mathlib.Core.Path.{◌≡◌}
use Prim.Native.Nat.{◌+◌, ◌-◌, ◌≤◌}
use lib.ListN.{length, drop}
use Rattle.meaning.specs.Text.{count_before}
use Rattle.text.proofs.line_end.Given as goal

abbrev pub invariant-loop-at : goal.invariant-loop-at
invariant-loop-at l = (l.at ≤ length l.bytes) × (l.at + count_before 10 (drop l.at l.bytes) ≡ l.from + count_before 10 (drop l.from l.bytes))

abbrev pub decreases-loop-at : goal.decreases-loop-at
decreases-loop-at l = length l.bytes - l.at
