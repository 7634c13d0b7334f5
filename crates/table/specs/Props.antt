-- That a table has room, and that it is filled, can hold in one way only, as a fact that a struct keeps must.
use Rattle.std.specs.Prelude.{List, [], ◌∷◌, ℕ, ◌+◌, length}
use Rattle.std.specs.Coded.{×_prop, Unit-prop}
use denote.Struct.Props as logic
use Rattle.meaning.specs.declared.Limits.{Limits}
use Rattle.meaning.specs.Lists.{Every}
use Rattle.meaning.specs.Model.{Stack, number}
use Rattle.meaning.specs.Meets.{StacksMeet}
use Rattle.table.specs.Filled.{Bounded, Room, Filled}

every_prop : {A : Type 0} (P : A → Type 0) (l : List A) → ((x : A) → IsProp (P x)) → IsProp (Every P l)
every_prop P [] h = Unit-prop
every_prop P (x ∷ l) h = ×_prop (h x) (every_prop P l h)

stacks_prop : (most items trucks : ℕ) (earlier : List ℕ) (loaded : ℕ) (p : List Stack) → IsProp (StacksMeet most items trucks earlier loaded p)
stacks_prop most items trucks earlier loaded [] = Unit-prop
stacks_prop most items trucks earlier loaded (s ∷ p) =
    let rest = stacks_prop most items trucks (number s ∷ earlier) (loaded + length s.load) p in
    Prim.hlevel (rest, logic.props)

pub filled_prop : (m : Limits) (t : List ℕ) → IsProp (Filled m t)
filled_prop m t = Prim.hlevel (every_prop, stacks_prop, logic.props)

-- the same of a table that has room
pub room_prop : (m : Limits) (t : List ℕ) → IsProp (Room m t)
room_prop m t = Prim.hlevel logic.props

-- the same of limits within their bounds
pub bounded_prop : (m : Limits) → IsProp (Bounded m)
bounded_prop m = Prim.hlevel logic.props
