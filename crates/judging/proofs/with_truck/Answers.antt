-- `judging::with_truck`: the row has truck and copy of the first stack.
use mathlib.Core.Path.{refl, ap, ◌∙◌}
use Prim.Native.Nat.{◌+◌}
use native.Mathlib.Omega.{arith}
use Rattle.manifest.proofs.Reading.{truck_is}
use Rattle.judging.proofs.Cost.{cost_used}
use Rattle.judging.proofs.with_truck.Goals as goal

pub truck_cost-requires : goal.truck_cost-requires
truck_cost-requires c = (truck_is c.args.manifest.holds c.args.start c.requires.0).1

pub returns : goal.returns
returns c = (
  refl,
  ap (λ n. n + c.args.used.cost) (c.truck_cost.ensures.0 ∙ cost_used c.args.manifest.holds c.args.start c.requires.0),
  omega (arith, c.truck_cost.ensures.1),
)
