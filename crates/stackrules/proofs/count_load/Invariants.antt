-- `stackrules::count_load`: entry by entry one is added to the count of its item.
use Rattle.stackrules.proofs.Tally.{Counting}
use Rattle.stackrules.proofs.count_load.Given as goal

abbrev pub invariant-loop-n : goal.invariant-loop-n
invariant-loop-n l = Counting l.items l.initial.times l.n-index l.times
