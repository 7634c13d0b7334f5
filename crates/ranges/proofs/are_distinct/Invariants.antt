-- The words from the index on decide: they are distinct where all words are, since those before are listed once only.
use mathlib.Core.Path.{◌≡◌}
use lib.ListN.{drop}
use Rattle.meaning.specs.Lists.{distinct}
use Rattle.ranges.proofs.are_distinct.Given as goal

abbrev pub invariant-loop-i : goal.invariant-loop-i
invariant-loop-i l = distinct (drop l.i l.words) ≡ distinct l.words
