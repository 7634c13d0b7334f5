-- Document 01, "Verdicts": reading line after line up to the first bad line. A reader is given the number of the next line and the
-- bytes from there on.
use Rattle.std.specs.Prelude.{List, [], ◌∷◌, ℕ, zero, suc}
use Rattle.meaning.specs.Text.{Form, Taken, entries, bad_form, bad_range, take_line}

-- a value with the next line's number and the bytes left, or the number of the first bad line and what is wrong with it
pub data Outcome (A : Type 0) : Type 0 where
  found : A → ℕ → List ℕ → Outcome A
  wrong_form : ℕ → Outcome A
  out_of_range : ℕ → Outcome A

-- from the next line's number and the bytes left to an outcome
abbrev pub Reader : Type 0 → Type 0
Reader A = ℕ → List ℕ → Outcome A

-- a value without reading
abbrev pub give : {A : Type 0} → A → Reader A
give a n bs = found a n bs

-- what was found decides how to go on; a bad line ends the reading
unfoldable pub onward : {A B : Type 0} → Outcome A → (A → Reader B) → Outcome B
onward (found a n rest) next = next a n rest
onward (wrong_form n) next = wrong_form n
onward (out_of_range n) next = out_of_range n

infixl 10 ◌>>=◌
-- one reader and then another: what a `do` block means
abbrev pub ◌>>=◌ : {A B : Type 0} → Reader A → (A → Reader B) → Reader B
◌>>=◌ reader next n bs = onward (reader n bs) next

-- the outcome of a line with its number
unfoldable pub at_line : ℕ → Taken → Outcome (List ℕ)
at_line n (entries ns rest) = found ns (suc n) rest
at_line n bad_form = wrong_form n
at_line n bad_range = out_of_range n

-- one line of a form
unfoldable pub line : Form → Reader (List ℕ)
unfolding at_line take_line
line f n bs = at_line n (take_line f bs)

-- so many values, one after another
unfoldable pub times : {A : Type 0} → ℕ → Reader A → Reader (List A)
unfolding onward
times zero reader = give []
times (suc k) reader = do
  a ← reader
  rest ← times k reader
  give (a ∷ rest)

-- "the first line too many" is wrong form
unfoldable pub at_end : {A : Type 0} → A → Reader A
at_end a n [] = found a n []
at_end a n (b ∷ bs) = wrong_form n

-- a whole file, whose lines are counted from 1
unfoldable pub whole_file : {A : Type 0} → Reader A → List ℕ → Outcome A
unfolding onward at_end
whole_file reader bs = onward (reader 1 bs) at_end
