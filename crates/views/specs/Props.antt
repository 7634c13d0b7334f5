-- That a load is one of items can hold in one way only, as a fact that a struct keeps must.
use Rattle.std.specs.Prelude.{List, ℕ}
use denote.Struct.Props as logic
use Rattle.meaning.specs.Model.{Instance}
use Rattle.table.specs.Filled.{LoadOfItems}

pub of_items_prop : (i : Instance) (load : List ℕ) → IsProp (LoadOfItems i load)
of_items_prop i load = Prim.hlevel logic.props
