-- Rows of words as they stand in the table.
use mathlib.Core.List.{List, ◌++◌, map, flat_map}
use Rattle.std.specs.Prelude.{◌≡◌, ℕ, length, Ok}
use Rattle.std.specs.Borrow.{MutBor}
use Rattle.meaning.specs.Lists.{padded}
use Rattle.meaning.specs.Reader.{Reader}
use Rattle.lines.specs.declared.cursor.Cursor.{Cursor}
use Rattle.lines.specs.Progress.{Progress, ReadInto}

-- rows of words one after another, and zeros behind them
abbrev pub rows : {A : Type 0} → ℕ → (A → List ℕ) → List A → List ℕ
rows size w l = padded size (flat_map w l)

-- what a function reads into a row of so many words, by what it tells of cursor and row, before and after
abbrev pub ReadsRow : (Cursor → MutBor (List ℕ) → Progress → MutBor (List ℕ) → Type 0) → ℕ → Reader (List ℕ) → Type 0
ReadsRow reads width reader =
    (here : Cursor) (row : MutBor (List ℕ)) (r : Progress) (row' : MutBor (List ℕ)) → length row.now ≡ width → reads here row r row'
    → ReadInto reader (λ words. words) (Ok here) r row'.now

-- "62 dock counts; 70 docks, 8 per supplier"
abbrev pub dock_words : List (List ℕ) → List ℕ
dock_words ds = padded 8 (map length ds) ++ padded 64 (flat_map (padded 8) ds)
