-- `printing::digit_count`: powers of ten up to the first above the number.
use Prim.Native.Nat.{◌-◌}
use Rattle.printing.proofs.Digits.{Counting}
use Rattle.printing.proofs.digit_count.Given as goal

abbrev pub invariant-loop-power : goal.invariant-loop-power
invariant-loop-power l = Counting l.n l.count l.power

abbrev pub decreases-loop-power : goal.decreases-loop-power
decreases-loop-power l = 10 - l.count
