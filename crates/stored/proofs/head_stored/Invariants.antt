-- Number after number: those in range do not decide any more.
use lib.ListN.{get_or}
use Rattle.meaning.specs.Lists.{between, up_from}
use Rattle.ranges.specs.Ranges.{head_range}
use Rattle.stored.proofs.Scan.{Passed}
use Rattle.stored.proofs.head_stored.Given as goal

abbrev pub invariant-loop-place : goal.invariant-loop-place
invariant-loop-place l = Passed (λ k. between (head_range l.layout.limits k).low (head_range l.layout.limits k).high (get_or l.words k 0)) (up_from 0 6) l.place
