-- `search::place_if`: the lowest of one place is that place, of none it is none.
use mathlib.Core.Path.{◌∙◌}
use Rattle.search.proofs.Lowest.{place_tested}
use Rattle.search.proofs.place_if.Goals as goal

pub returns : goal.returns
returns c = c.then_some.ensures ∙ place_tested _ _
