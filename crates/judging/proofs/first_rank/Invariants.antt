-- `judging::first_rank`: the rules before the current rank are told to be kept.
use Rattle.judging.proofs.Verdicts.{KeptTo}
use Rattle.judging.proofs.first_rank.Given as goal

abbrev pub invariant-loop-rank : goal.invariant-loop-rank
invariant-loop-rank l = KeptTo l.found l.upto l.rank
