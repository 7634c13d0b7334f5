-- That rows are in order along a trailer can hold in one way only, as a fact that a struct keeps must.
use Rattle.std.specs.Prelude.{List, ℕ}
use denote.Struct.Props as logic
use Rattle.manifest.specs.declared.Block.{Block}
use Rattle.manifest.specs.declared.row.Row.{Row}
use Rattle.placement.specs.Placed.{RowsByX}

pub by_x_prop : (rows : List Row) (on : Block) (along : List ℕ) → IsProp (RowsByX rows on along)
by_x_prop rows on along = Prim.hlevel logic.props
