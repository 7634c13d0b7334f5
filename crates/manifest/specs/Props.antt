-- That rows are those of a table's stacks can hold in one way only, as a fact that a struct keeps must.
use Rattle.std.specs.Prelude.{List, ℕ}
use denote.Struct.Props as logic
use Rattle.meaning.specs.declared.Limits.{Limits}
use Rattle.table.specs.Props.{filled_prop}
use Rattle.manifest.specs.declared.row.Row.{Row}
use Rattle.manifest.specs.Manifest.{HoldsRows}

pub holds_prop : (m : Limits) (t : List ℕ) (rows : List Row) → IsProp (HoldsRows m t rows)
holds_prop m t rows = let table = filled_prop m t in Prim.hlevel (table, logic.props)
