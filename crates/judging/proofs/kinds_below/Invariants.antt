-- `judging::kinds_below`: everything is asked, or the kinds of the rules before k.
use Prim.Native.Nat.{◌≤◌}
use Rattle.judging.specs.Judging.{AskedBelow}
use Rattle.judging.proofs.kinds_below.Given as goal

abbrev pub invariant-loop-k : goal.invariant-loop-k
invariant-loop-k l = AskedBelow l.k l.asked × (l.k ≤ l.rank)
