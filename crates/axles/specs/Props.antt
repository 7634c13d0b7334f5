-- That numbers are within their bounds can hold in one way only, as a fact that a struct keeps must.
use Rattle.std.specs.Prelude.{List}
use denote.Struct.Props as logic
use Rattle.manifest.specs.declared.row.Row.{Row}
use Rattle.axles.specs.declared.AxleData.{AxleData}
use Rattle.axles.specs.Weights.{BoundedAxles, BoundedRows}

pub rows_prop : (rows : List Row) → IsProp (BoundedRows rows)
rows_prop rows = Prim.hlevel logic.props

pub axles_prop : (line : AxleData) → IsProp (BoundedAxles line)
axles_prop line = Prim.hlevel logic.props
