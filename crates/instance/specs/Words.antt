-- The parts of an instance as they stand in the table, and the first five lines as one reader.
use Rattle.std.specs.Prelude.{◌≡◌, ℕ, ◌*◌, ◌≤◌, length, IfOk}
use mathlib.Core.List.{List, [], ◌∷◌, ◌++◌, flat_map}
use Rattle.meaning.specs.declared.Limits.{Limits}
use Rattle.meaning.specs.Lists.{padded}
use Rattle.meaning.specs.Limits.{items_at}
use Rattle.meaning.specs.Reader.{Reader, give, onward, ◌>>=◌, at_end}
use Rattle.meaning.specs.Files.{number_line, ◌to◌, instance_lines}
use Rattle.meaning.specs.Model.{Instance, Item}
use Rattle.meaning.specs.Table.{truck_words}
use Rattle.lines.specs.Progress.{Progress, LineResult, progress_of, ReadInto}
use Rattle.trucks.specs.Rows.{rows}
use Rattle.instance.specs.declared.HeadCounts.{HeadCounts}

-- the numbers of the five lines that an instance begins with
pub record HeadNumbers : Type 0 where
  pub αT : ℕ
  pub αI : ℕ
  pub αE : ℕ
  pub items : ℕ
  pub trucks : ℕ

-- the five lines that an instance begins with
unfoldable pub head_lines : Limits → Reader HeadNumbers
unfolding onward number_line
head_lines m = do
  αT ← number_line "transport=" (0 to 1000)
  αI ← number_line "inventory=" (0 to 1000)
  αE ← number_line "extra=" (0 to 1000)
  items ← number_line "items=" (1 to m.items)
  trucks ← number_line "trucks=" (1 to m.trucks)
  give (record { αT = αT; αI = αI; αE = αE; items = items; trucks = trucks })

-- "0..5: αT, αI, αE, items, trucks, stacks": the stacks are not read yet
abbrev pub head_row : HeadNumbers → List ℕ
head_row h = padded items_at (h.αT ∷ h.αI ∷ h.αE ∷ h.items ∷ h.trucks ∷ [])

-- what reading the head promises: the counts besides, which are within the limits
pub record HeadPromise (m : Limits) (p : Progress) (r : LineResult HeadCounts) (part : List ℕ) : Type 0 where
  pub into : ReadInto (head_lines m) head_row p (progress_of r) part
  pub items : IfOk r (λ f. f.value.items ≡ into.value.items)
  pub trucks : IfOk r (λ f. f.value.trucks ≡ into.value.trucks)
  pub items_within : IfOk r (λ f. f.value.items ≤ m.items)
  pub trucks_within : IfOk r (λ f. f.value.trucks ≤ m.trucks)

-- the head of an instance
abbrev pub head_of : Instance → HeadNumbers
head_of i = record { αT = i.αT; αI = i.αI; αE = i.αE; items = length i.items; trucks = length i.trucks }

-- the whole file: its lines, and none behind them
abbrev pub instance_file : Limits → Reader Instance
instance_file m = instance_lines m >>= at_end

-- the words of an instance, up to the first word of the stacks
unfoldable pub instance_words : Limits → Instance → List ℕ
unfolding flat_map truck_words
instance_words m i =
    head_row (head_of i) ++ (rows (16 * m.items) (λ (a : Item). a) i.items ++ rows (160 * m.trucks) truck_words i.trucks)
