-- `printing::put_digits`: the digits of the rest in front of those that stand are the digits of the number.
use mathlib.Core.Path.{sym, ◌∙◌}
use native.Mathlib.Omega.{arith}
use lib.ListN.{length-set}
use Rattle.printing.proofs.Digits.{some_digits, placing_start, placing_before, placing_next, placing_end}
use Rattle.printing.proofs.put_digits.Goals as goal

pub overflow_sub-at : goal.overflow_sub-at
overflow_sub-at c = omega (arith, some_digits c.args.n)

pub loop-rest-init : goal.loop-rest-init
loop-rest-init c = placing_start c.args.n c.args.out.now (omega arith) c.requires

pub overflow_sub-at-in-loop-rest : goal.overflow_sub-at-in-loop-rest
overflow_sub-at-in-loop-rest c = placing_before c.loop-rest.invariant (omega arith)

pub loop-rest-preserved : goal.loop-rest-preserved
loop-rest-preserved c = placing_next c.loop-rest.invariant (omega arith)

pub shape_of-out : goal.shape_of-out
shape_of-out c = simp length-set (c.loop-rest.invariant.long ∙ sym c.requires)

pub returns : goal.returns
returns c = placing_end c.loop-rest.invariant (omega arith)
