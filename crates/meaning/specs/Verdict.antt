-- Document 01, "Verdicts" and "Cost": the answer on a plan that was read.
use Rattle.std.specs.Prelude.{cond, List, [], ◌∷◌, ℕ, ◌+◌, ◌-◌, ◌*◌, eqb, length}
use Rattle.std.proofs.Math.Option.{Option, none, some}
use Rattle.meaning.specs.declared.Place.{Place}
use Rattle.meaning.specs.declared.Answer.{Answer}
use Rattle.meaning.specs.Lists.{sum}
use Rattle.meaning.specs.Places.{lowest}
use Rattle.meaning.specs.Model.{Instance, Stack, Item, item, truck_numbered, truck_of, IC, IDL, TC, TDA}
use Rattle.meaning.specs.Measures.{UsedTruck, used_trucks}
use Rattle.meaning.specs.Rules.{Rule, rules}

-- ---- "The answer is number, three places, cost, used trucks"
-- "A refusal has cost and trucks 0"
abbrev pub refusal : ℕ → Place → Answer
refusal n q = record { number = n; first = q.first; second = q.second; third = q.third; cost = 0; trucks = 0 }

-- "0 accepts, with places 0"
abbrev pub acceptance : ℕ → ℕ → Answer
acceptance cost trucks = record { number = 0; first = 0; second = 0; third = 0; cost = cost; trucks = trucks }

-- ---- "Order is that of the table, each rule over the whole plan before the next"
-- the answer of a rule by its lowest place, or that of the rules after it
unfoldable pub broken_or : ℕ → Option Place → Answer → Answer
broken_or n none later = later
broken_or n (some q) later = refusal n q

-- the answer of the first rule that is broken; `accepted` is the answer where none is
unfoldable pub first_broken : List Rule → Instance → List Stack → Answer → Answer
unfolding broken_or lowest
first_broken [] i p accepted = accepted
first_broken (r ∷ rs) i p accepted = let later = first_broken rs i p accepted in broken_or r.verdict (lowest (r.places i p)) later

-- ---- "Cost, in thousandths"
-- "TC × 1000, or TC × (1000 + αE) for an extra"
abbrev pub transport_cost : Instance → UsedTruck → ℕ
transport_cost i u = TC (truck_numbered i u.truck) * cond (eqb u.copy 0) 1000 (1000 + i.αE)

-- "IDL − TDA": the days that an item arrives before its latest day. Rule 13 keeps the difference from being negative
abbrev pub days_early : Instance → Stack → Item → ℕ
days_early i s a = IDL a - TDA (truck_of i s)

-- "IC × (IDL − TDA) over items", of one stack
unfoldable pub inventory_cost : Instance → Stack → ℕ
unfolding sum
inventory_cost i s = sum (λ n. IC (item i n) * days_early i s (item i n)) s.load

-- "αT × (sum over used trucks of TC × 1000, or TC × (1000 + αE) for an extra) + 1000 × αI × sum of IC × (IDL − TDA) over items"
unfoldable pub cost : Instance → List Stack → ℕ
unfolding sum used_trucks inventory_cost
cost i p = i.αT * sum (transport_cost i) (used_trucks p) + 1000 * i.αI * sum (inventory_cost i) p

-- ---- the verdict: a broken rule, or the cost and the number of used trucks
unfoldable pub verdict_on : Instance → List Stack → Answer
unfolding first_broken rules cost used_trucks
verdict_on i p = first_broken rules i p (acceptance (cost i p) (length (used_trucks p)))
