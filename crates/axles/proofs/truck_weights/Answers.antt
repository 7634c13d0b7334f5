-- The loop keeps the lowest places of the departures after the current one; all stacks are on one used truck.
use mathlib.Core.Path.{ap}
use native.Mathlib.Omega.{arith}
use lib.ListN.{length}
use Rattle.axles.proofs.Rows.{rows_bounded, axles_bounded, truck_known, used_known}
use Rattle.axles.proofs.Departures.{axle_start, axle_more, lowest_are}
use Rattle.axles.proofs.truck_weights.Goals as goal

pub invariant_of-load : goal.invariant_of-load
invariant_of-load c = record { bounded = rows_bounded c.args.manifest.holds c.requires }

pub truck_field-requires : goal.truck_field-requires
truck_field-requires c = ((truck_known c.args.manifest.holds c.requires), omega arith)

pub read_axle_data-requires : goal.read_axle_data-requires
read_axle_data-requires c = (truck_known c.args.manifest.holds c.requires)

pub suppliers-list-requires : goal.suppliers-list-requires
suppliers-list-requires c = (truck_known c.args.manifest.holds c.requires)

pub invariant_of-axles : goal.invariant_of-axles
invariant_of-axles c = rw c.read_axle_data.ensures record { bounded = axles_bounded c.args.manifest.holds.filled (truck_known c.args.manifest.holds c.requires) }

pub loop-before-init : goal.loop-before-init
loop-before-init c = (axle_start, axle_start)

pub loop-before-preserved : goal.loop-before-preserved
loop-before-preserved c = (
  axle_more c.loop-before.invariant.0 c.loop-before-test.true c.exceeded-exceeded.ensures.0 c.place_if.ensures c.lower_of-middle.ensures,
  axle_more c.loop-before.invariant.1 c.loop-before-test.true c.exceeded-exceeded.ensures.1 c.place_if-in-loop-before.ensures c.lower_of-rear.ensures,
)

pub returns : goal.returns
returns c =
    lowest_are c.args.manifest.holds c.requires (used_known c.args.manifest.holds c.requires) c.read_axle_data.ensures
    (ap length c.suppliers-list.ensures.0) c.total_weight.ensures c.truck_field.ensures.0 c.place_if-2.ensures
    c.loop-before.invariant.0 c.loop-before.invariant.1 c.loop-before-test.false
