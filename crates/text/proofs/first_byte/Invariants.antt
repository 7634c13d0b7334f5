-- Counted from `at` on, the byte is found at the same index as counted from `from` on.
use mathlib.Core.Path.{◌≡◌}
use Prim.Native.Nat.{◌+◌, ◌≤◌, max}
use lib.ListN.{length, drop}
use Rattle.meaning.specs.Text.{count_before}
use Rattle.text.proofs.first_byte.Given as goal

abbrev pub invariant-loop-at : goal.invariant-loop-at
invariant-loop-at l = (l.at + count_before l.byte (drop l.at l.bytes) ≡ l.from + count_before l.byte (drop l.from l.bytes)) × (l.at ≤ max l.from (length l.bytes))
