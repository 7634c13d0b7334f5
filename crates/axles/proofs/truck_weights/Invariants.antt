-- The loop keeps the lowest places of the departures after the current one; all stacks are on one used truck.
use Rattle.meaning.specs.Measures.{UsedTruck}
use Rattle.axles.specs.Weights.{middle_under, rear_under}
use Rattle.axles.proofs.Departures.{AxleFrom}
use Rattle.axles.proofs.truck_weights.Given as goal

abbrev pub invariant-loop-before : goal.invariant-loop-before
invariant-loop-before l = let u : UsedTruck = record { truck = l.truck; copy = l.copy } in
    AxleFrom middle_under l.load.0.now l.axles.0 u l.initial.before l.before l.middle
    × AxleFrom rear_under l.load.0.now l.axles.0 u l.initial.before l.before l.rear
