-- The answer of a search, as a definition of the places where a rule is broken.
use Rattle.std.specs.Prelude.{cond, List, Option, Some, None}
use Rattle.std.proofs.Math.Option as listed
use Rattle.std.specs.declared.cmp.Ordering.{Ordering}
use Rattle.std.specs.Ordering.{nat_cmp, ordering_then, ord_min}
use Rattle.meaning.specs.declared.Place.{Place}
use Rattle.meaning.specs.Places.{lower, lowest}

-- a place or none, as a search answers it
abbrev pub found_of : listed.Option Place → Option Place
found_of listed.none = None
found_of (listed.some p) = Some p

-- "Places are the lowest": the lowest of these places
unfoldable pub lowest_in : List Place → Option Place
unfolding lowest
lowest_in ps = found_of (lowest ps)

-- the lower of two places
abbrev pub lower_place : Place → Place → Place
lower_place p q = cond (lower q p) q p

-- the lower of two answers
abbrev pub lower_found : Option Place → Option Place → Option Place
lower_found None b = b
lower_found (Some p) None = Some p
lower_found (Some p) (Some q) = Some (lower_place p q)

-- how two places compare, as their derived order has it
abbrev pub place_cmp : Place → Place → Ordering
place_cmp p q = ordering_then (nat_cmp p.first q.first) (ordering_then (nat_cmp p.second q.second) (nat_cmp p.third q.third))

-- the lower of two answers by an order that the values bring
abbrev pub lower_by : {A : Type 0} → (A → A → Ordering) → Option A → Option A → Option A
lower_by cmp None b = b
lower_by cmp (Some p) None = Some p
lower_by cmp (Some p) (Some q) = Some (ord_min cmp p q)
