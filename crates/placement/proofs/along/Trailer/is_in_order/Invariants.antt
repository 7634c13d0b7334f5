-- `Trailer::is_in_order`: every stack before it along the trailer is asked.
use Rattle.placement.proofs.Trailer.{InOrderUpto}
use Rattle.placement.proofs.along.Trailer.is_in_order.Given as goal

abbrev pub invariant-loop-j : goal.invariant-loop-j
invariant-loop-j l = InOrderUpto l.self.rows.now l.self.on l.self.along.now l.k l.place l.j
