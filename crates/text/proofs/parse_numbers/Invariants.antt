-- The parts still to come give the same answer and the same words as all parts do; each turn takes the first of them.
use Rattle.meaning.specs.Text.{comma_parts}
use Rattle.text.proofs.Values.{ToCome}
use Rattle.text.proofs.parse_numbers.Given as goal

abbrev pub invariant-loop-stored : goal.invariant-loop-stored
invariant-loop-stored l = ToCome l.fn.least (comma_parts l.fn.value) l.initial.out l.out l.stored (comma_parts l.rest)
