-- That a stack or an item is there can hold in one way only, as a fact that a struct keeps must.
use Rattle.std.specs.Prelude.{List, ℕ, ◌<◌, length}
use denote.Struct.Props as logic
use Rattle.meaning.specs.Model.{Instance, Stack}
use Rattle.table.specs.Filled.{ItemNumber}

pub listed_prop : (p : List Stack) (at : ℕ) → IsProp (at < length p)
listed_prop p at = Prim.hlevel logic.props

pub known_prop : (i : Instance) (p : List Stack) (place n : ℕ) → IsProp ((place < length p) × ItemNumber i n)
known_prop i p place n = Prim.hlevel logic.props
