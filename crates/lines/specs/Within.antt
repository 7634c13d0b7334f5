-- Where a cursor may stand in its file.
use Rattle.std.specs.Prelude.{List, ℕ, ◌≤◌, length}
use denote.Struct.Props as logic

-- no more lines than bytes before it, and not past the end
abbrev pub Within : List ℕ → ℕ → ℕ → Type 0
Within file at line = (line ≤ at) × (at ≤ length file)

-- which can hold in one way only, as a fact that a struct keeps must
pub within_prop : (file : List ℕ) (at line : ℕ) → IsProp (Within file at line)
within_prop file at line = Prim.hlevel logic.props
