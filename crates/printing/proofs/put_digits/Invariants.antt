-- `printing::put_digits`: the digits of the rest in front of those that stand are the digits of the number.
use Rattle.printing.proofs.Digits.{Placing}
use Rattle.printing.proofs.put_digits.Given as goal

abbrev pub invariant-loop-rest : goal.invariant-loop-rest
invariant-loop-rest l = Placing l.n l.out l.rest l.at

abbrev pub decreases-loop-rest : goal.decreases-loop-rest
decreases-loop-rest l = l.rest
