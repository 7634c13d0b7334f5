-- `Trailer::is_clear`: those it has passed lie apart, and from one that begins where it ends x rises along the trailer.
use Rattle.placement.proofs.Trailer.{ClearUpto}
use Rattle.placement.proofs.along.Trailer.is_clear.Given as goal

abbrev pub invariant-loop-j : goal.invariant-loop-j
invariant-loop-j l = ClearUpto l.self.rows.now l.self.on l.self.along.now l.k l.ground l.j
