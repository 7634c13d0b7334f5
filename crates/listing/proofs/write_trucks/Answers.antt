-- `listing::write_trucks`: the trucks from the next one on are still to be written.
use native.Mathlib.Omega.{arith}
use Rattle.meaning.specs.Model.{no_truck}
use Rattle.printing.proofs.Progress.{listing_room, listing_next, listing_end}
use Rattle.listing.proofs.Lines.{numbered}
use Rattle.listing.proofs.write_trucks.Goals as goal

pub write_truck-requires : goal.write_truck-requires
write_truck-requires c =
    (omega arith, rw (numbered _ no_truck c.loop-n.n) (listing_room c.loop-n.invariant no_truck (omega arith)))

pub loop-n-preserved : goal.loop-n-preserved
loop-n-preserved c =
    listing_next c.loop-n.invariant no_truck (omega arith) (rw (numbered _ no_truck c.loop-n.n) at c.write_truck.ensures)

pub returns : goal.returns
returns c = listing_end c.loop-n.invariant (omega arith)
