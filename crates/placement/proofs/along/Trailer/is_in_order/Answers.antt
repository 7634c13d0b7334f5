-- `Trailer::is_in_order`: every stack before it along the trailer is asked.
use native.Mathlib.Omega.{arith}
use Rattle.placement.proofs.Trailer.{both_room, in_order_more}
use Rattle.placement.proofs.along.Trailer.is_in_order.Goals as goal

pub in_loading_order-requires : goal.in_loading_order-requires
in_loading_order-requires c =
    let both = both_room c.loop-j.invariant c.loop-j-test.true c.place.ensures in
    (omega (arith, both), omega (arith, both))

pub loop-j-preserved : goal.loop-j-preserved
loop-j-preserved c = in_order_more c.loop-j.invariant c.loop-j-test.true c.place.ensures c.in_loading_order.ensures c.if-not-in_loading_order.false
