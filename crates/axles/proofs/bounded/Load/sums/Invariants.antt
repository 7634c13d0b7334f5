-- What is summed and what is still to come make the whole sums, and what is summed is within the bounds of all, so it fits.
use Rattle.axles.proofs.Walks.{SumsTo}
use Rattle.axles.proofs.bounded.Load.sums.Given as goal

abbrev pub invariant-loop-row : goal.invariant-loop-row
invariant-loop-row l = SumsTo l.departure l.axles.line.twice l.self.rows.now l.row-index l.weight l.levers
