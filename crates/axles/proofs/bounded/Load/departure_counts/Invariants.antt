-- No stack passed so far is on, so the departure counts exactly where one of those left is.
use Rattle.axles.proofs.Walks.{NoneBefore}
use Rattle.axles.proofs.bounded.Load.departure_counts.Given as goal

abbrev pub invariant-loop-row : goal.invariant-loop-row
invariant-loop-row l = NoneBefore l.departure l.self.rows.now l.row-index
