-- Numbers that are told from the largest word.
use Rattle.std.specs.Prelude.{ℕ, ◌<◌}
use denote.Struct.Props as logic
use Rattle.meaning.specs.Table.{largest_word}

-- item and truck numbers are told from the largest word, which stands for all numbers that do not fit
abbrev pub BelowLargest : ℕ → ℕ → Type 0
BelowLargest items trucks = (items < largest_word) × (trucks < largest_word)

-- which can hold in one way only, as a fact that a struct keeps must
pub below_prop : (items trucks : ℕ) → IsProp (BelowLargest items trucks)
below_prop items trucks = Prim.hlevel logic.props
