-- `Trailer::row`: the row at the k-th place is there.
use native.Mathlib.Omega.{arith}
use Rattle.placement.proofs.Trailer.{nth_room, nth_few}
use Rattle.placement.proofs.along.Trailer.row.Goals as goal

pub bounds-self-place : goal.bounds-self-place
bounds-self-place c = rw c.place.ensures (nth_room c.args.self.sorted c.args.k c.requires)

pub offset_bounds-self-place : goal.offset_bounds-self-place
offset_bounds-self-place c = omega (arith, c.place.ensures, nth_few c.args.self.sorted c.args.k c.requires)
