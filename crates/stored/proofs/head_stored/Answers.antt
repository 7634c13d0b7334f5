-- Number after number: those in range do not decide any more.
use mathlib.Core.Path.{ap, ◌∙◌}
use native.Mathlib.Omega.{arith}
use Rattle.std.proofs.lemmas.List.{take_rest}
use Rattle.stored.specs.Parts.{head_stored, zeros}
use Rattle.stored.proofs.Scan.{place_passed, place_failed, places_passed}
use Rattle.stored.proofs.head_stored.Goals as goal

pub returns-then-not-head_number_in_range : goal.returns-then-not-head_number_in_range
unfolding head_stored
returns-then-not-head_number_in_range c = place_failed 6 c.loop-place.invariant (omega arith) c.head_number_in_range.ensures c.if-not-head_number_in_range.true _

pub loop-place-preserved : goal.loop-place-preserved
loop-place-preserved c = place_passed 6 c.loop-place.invariant (omega arith) c.head_number_in_range.ensures c.if-not-head_number_in_range.false

pub returns : goal.returns
unfolding head_stored
returns c = places_passed 6 c.loop-place.invariant (omega arith) (c.are_zero.ensures ∙ ap zeros (take_rest c.args.words.now 6))
