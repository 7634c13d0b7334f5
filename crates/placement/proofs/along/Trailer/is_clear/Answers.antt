-- `Trailer::is_clear`: those it has passed lie apart, and from one that begins where it ends x rises along the trailer.
use Rattle.placement.proofs.Trailer.{clear_behind}
use Rattle.placement.proofs.along.Trailer.is_clear.Goals as goal

pub returns-then-ground-other : goal.returns-then-ground-other
returns-then-ground-other c = clear_behind c.loop-j.invariant c.loop-j-test.true c.footprint-other.ensures c.if-ground-other.true
