-- `Trailer::is_braced`: a stack at the front wall is braced; else those before it along the trailer are asked, since no other can brace it.
use Rattle.placement.proofs.Trailer.{NoBrace}
use Rattle.placement.proofs.along.Trailer.is_braced.Given as goal

abbrev pub invariant-loop-j : goal.invariant-loop-j
invariant-loop-j l = NoBrace l.self.rows.now l.self.on l.self.along.now l.k l.ground l.j
