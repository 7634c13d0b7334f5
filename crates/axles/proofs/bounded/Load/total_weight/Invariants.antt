-- What is summed and what is still to come make the whole sum, so it fits.
use Rattle.axles.proofs.Walks.{Weighed}
use Rattle.axles.proofs.bounded.Load.total_weight.Given as goal

abbrev pub invariant-loop-row : goal.invariant-loop-row
invariant-loop-row l = Weighed l.self.rows.now l.row-index l.weight
