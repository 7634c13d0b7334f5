-- `judging::joined`: of each rule the lower place is kept.
use mathlib.Core.Path.{refl, ◌∙◌}
use Rattle.search.proofs.Lowest.{lower_places}
use Rattle.judging.proofs.joined.Goals as goal

pub returns : goal.returns
returns c =
    let a = c.args.a in
    let b = c.args.b in
    rw (
      c.lower_of.ensures ∙ lower_places a.placement.unbraced b.placement.unbraced,
      c.lower_of-2.ensures ∙ lower_places a.weights.overload b.weights.overload,
      c.lower_of-3.ensures ∙ lower_places a.weights.middle b.weights.middle,
      c.lower_of-4.ensures ∙ lower_places a.weights.rear b.weights.rear,
    )
    refl
