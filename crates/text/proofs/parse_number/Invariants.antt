-- The digits passed are the number so far; with it in front, the rest of the part is the whole number. The loop is left where the part ends.
use mathlib.Core.Path.{◌≡◌}
use Rattle.text.proofs.Numbers.{Passed}
use Rattle.text.proofs.parse_number.Given as goal

abbrev pub invariant-loop-byte : goal.invariant-loop-byte
invariant-loop-byte l = record { counted : l.digits ≡ l.byte-index; passed : Passed l.bytes l.n l.byte-index }
