-- `Trailer::placement`: the stacks are taken from the last along the trailer to the first; then the order is asked, where no two overlap.
use Rattle.placement.proofs.Walk.{PlacedFrom}
use Rattle.placement.proofs.along.Trailer.placement.Given as goal

abbrev pub invariant-loop-k : goal.invariant-loop-k
invariant-loop-k l = PlacedFrom l.self.rows.now l.self.on l.self.along.now l.k l.apart l.unbraced
