-- `Trailer::placement`: the stacks are taken from the last along the trailer to the first; then the order is asked, where no two overlap.
use mathlib.Core.Path.{refl, ap}
use Rattle.manifest.specs.declared.row.Row.{Row}
use Rattle.placement.proofs.Walk.{placed_start, clear_asked, overlap_known, placed_apart, placed_overlap}
use Rattle.placement.proofs.along.Trailer.placement.Goals as goal

pub loop-k-init : goal.loop-k-init
loop-k-init c = placed_start c.args.self.sorted

pub loop-k-preserved-then-apart : goal.loop-k-preserved-then-apart
loop-k-preserved-then-apart c =
    clear_asked c.loop-k.invariant c.loop-k-test.true
    refl (ap (λ (r : Row). r.number) c.row.ensures) c.is_braced.ensures
    c.place_if-here.ensures c.lower_of-unbraced.ensures c.if-apart.true c.is_clear-apart.ensures

pub loop-k-preserved : goal.loop-k-preserved
loop-k-preserved c =
    overlap_known c.loop-k.invariant c.loop-k-test.true
    refl (ap (λ (r : Row). r.number) c.row.ensures) c.is_braced.ensures
    c.place_if-here.ensures c.lower_of-unbraced.ensures c.if-apart.false

pub returns-then-apart-2 : goal.returns-then-apart-2
returns-then-apart-2 c = placed_apart c.loop-k.invariant c.loop-k-test.false c.if-apart-2.true c.are_in_order-in_order.ensures

pub returns-else-apart-2 : goal.returns-else-apart-2
returns-else-apart-2 c = placed_overlap c.loop-k.invariant c.loop-k-test.false c.if-apart-2.false
