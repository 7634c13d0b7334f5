-- `stackrules::lowest_not_once`: of the items behind `at` the lowest place is kept; the words of the counts say how often each item is loaded.
use Rattle.stackrules.proofs.Tally.{FoundAbove}
use Rattle.stackrules.proofs.lowest_not_once.Given as goal

abbrev pub invariant-loop-at : goal.invariant-loop-at
invariant-loop-at l = FoundAbove l.times l.initial.at l.at l.found
