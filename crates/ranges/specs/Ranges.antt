-- Ranges as the code has them.
use Rattle.std.specs.Prelude.{List, [], ◌∷◌, map, ℕ, zero, suc, ◌*◌, get_or, set}
use Rattle.meaning.specs.declared.Limits.{Limits}
use Rattle.meaning.specs.Files.{Range, ◌to◌, item_ranges, truck_ranges}
use Rattle.meaning.specs.Model.{IDE}
use Rattle.ranges.specs.declared.Range.{Range as InCode}

-- the ranges of a table of the code, each with its two ends
abbrev pub ranges_of : List InCode → List Range
ranges_of rs = map (λ r. r.0 to r.1) rs

-- "0..5: αT, αI, αE, items, trucks, stacks": the ranges of these numbers
abbrev pub head_ranges : Limits → List Range
head_ranges m = 0 to 1000 ∷ 0 to 1000 ∷ 0 to 1000 ∷ 1 to m.items ∷ 1 to m.trucks ∷ 0 to m.stacks ∷ []

-- the range of the number at a place of the head
abbrev pub head_range : Limits → ℕ → Range
head_range m place = get_or (head_ranges m) place (0 to 0)

-- the ranges of an item's line with another last time, for IDE and IDL
abbrev pub item_ranges_up_to : ℕ → List ℕ → List Range
item_ranges_up_to last a = set (set (item_ranges a) 9 (0 to last)) 10 (IDE a to last)

-- the ranges of a truck's line with another last time, for TDA
abbrev pub truck_ranges_up_to : ℕ → List Range
truck_ranges_up_to last = set truck_ranges 5 (0 to last)

-- the numbers of the stacks in the first k rows, the last one first
unfoldable pub row_numbers : ℕ → List ℕ → List ℕ
row_numbers zero part = []
row_numbers (suc k) part = get_or part (8 * k) 0 ∷ row_numbers k part
