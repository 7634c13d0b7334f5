-- Document 01, "Verdicts": "Places are the lowest, by the first, then the second, then the third".
use Rattle.std.specs.Prelude.{Bool, false, cond, ◌&&◌, ◌||◌, List, [], ◌∷◌, ℕ, ltb, eqb}
use Rattle.std.proofs.Math.Option.{Option, none, some}
use Rattle.meaning.specs.declared.Place.{Place}

-- a place by its three numbers
abbrev pub place : ℕ → ℕ → ℕ → Place
place a b c = record { first = a; second = b; third = c }

-- a is below b; where they are equal, what comes next decides
unfoldable pub below_or : ℕ → ℕ → Bool → Bool
below_or a b next = ltb a b || (eqb a b && next)

-- p is lower than q
unfoldable pub lower : Place → Place → Bool
unfolding below_or
lower p q = below_or p.first q.first (below_or p.second q.second (below_or p.third q.third false))

-- the lower of a place and the lowest of others
unfoldable pub lower_of : Place → Option Place → Option Place
unfolding lower
lower_of p none = some p
lower_of p (some q) = some (cond (lower q p) q p)

-- the lowest place of a list; none where the list is empty
unfoldable pub lowest : List Place → Option Place
unfolding lower_of
lowest [] = none
lowest (p ∷ ps) = lower_of p (lowest ps)
