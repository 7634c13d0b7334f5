-- Document 01, "The two files": bytes, numbers, and one line.
use Rattle.std.specs.Prelude.{Bool, cond, not, ◌&&◌, List, [], ◌∷◌, ℕ, suc, ◌+◌, ◌-◌, ◌*◌, ltb, eqb, length, get_or, take, drop}
use Rattle.std.proofs.Math.Option.{Option, none, some}
use Prim.Native.Char.{code}
use Prim.Native.String.{String, [] as []ˢ, ◌∷◌ as ◌∷ˢ◌}
use Rattle.meaning.specs.Lists.{between}

-- "ASCII": the bytes of a text
abbrev pub bytes : String → List ℕ
bytes []ˢ = []
bytes (c ∷ˢ s) = code c ∷ bytes s

-- ---- "A number is 1 to 10 decimal digits without needless leading zero"
abbrev pub is_digit : ℕ → Bool
is_digit b = between 48 57 b

-- the number whose digits are those of v and then these bytes; none where a byte is no digit
unfoldable pub decimal_from : ℕ → List ℕ → Option ℕ
decimal_from v [] = some v
decimal_from v (b ∷ bs) = let later = decimal_from (10 * v + (b - 48)) bs in cond (is_digit b) later none

-- a leading zero is needless unless it stands alone
abbrev pub needless_zero : List ℕ → Bool
needless_zero bs = ltb 1 (length bs) && eqb (get_or bs 0 0) 48

-- the number that these bytes are; none where they are no number
unfoldable pub number : List ℕ → Option ℕ
unfolding decimal_from
number bs = cond (between 1 10 (length bs) && not (needless_zero bs)) (decimal_from 0 bs) none

-- ---- "numbers with a comma between each two"
-- one byte more at the front of the first part
unfoldable pub onto_first : ℕ → List (List ℕ) → List (List ℕ)
onto_first b [] = (b ∷ []) ∷ []
onto_first b (part ∷ parts) = (b ∷ part) ∷ parts

-- the parts between commas
unfoldable pub comma_parts : List ℕ → List (List ℕ)
unfolding onto_first
comma_parts [] = [] ∷ []
comma_parts (b ∷ bs) = cond (eqb b 44) ([] ∷ comma_parts bs) (onto_first b (comma_parts bs))

-- one number more at the front of numbers, where both are there
unfoldable pub and_numbers : Option ℕ → Option (List ℕ) → Option (List ℕ)
and_numbers none ns = none
and_numbers (some n) none = none
and_numbers (some n) (some ns) = some (n ∷ ns)

-- the numbers that the parts are; none where a part is no number
unfoldable pub numbers : List (List ℕ) → Option (List ℕ)
unfolding and_numbers number
numbers [] = some []
numbers (part ∷ parts) = and_numbers (number part) (numbers parts)

-- ---- "A line's value is the part of the line after its equals sign"
-- what follows the key: "The key and its equals sign must stand byte by byte", else none
unfoldable pub value_after : List ℕ → List ℕ → Option (List ℕ)
value_after [] line = some line
value_after (k ∷ key) [] = none
value_after (k ∷ key) (b ∷ line) = let later = value_after key line in cond (eqb k b) later none

-- the numbers of a value; none where there is no value
unfoldable pub numbers_of : Option (List ℕ) → Option (List ℕ)
unfolding numbers comma_parts
numbers_of none = none
numbers_of (some value) = numbers (comma_parts value)

-- "A line is a key, an equals sign, and numbers with a comma between each two": the numbers of a line with this key
unfoldable pub line_numbers : String → List ℕ → Option (List ℕ)
unfolding numbers_of value_after
line_numbers key line = numbers_of (value_after (bytes key) line)

-- ---- a kind of line: its key with the equals sign, how many entries it has, and the range test on them
pub record Form : Type 0 where
  pub key : String
  pub least : ℕ
  pub most : ℕ
  pub fits : List ℕ → Bool

-- what the first line of some bytes is to a form: its entries and the bytes after it, or wrong in form, or out of range
pub data Taken : Type 0 where
  entries : List ℕ → List ℕ → Taken
  bad_form : Taken
  bad_range : Taken

-- "form before range": the numbers are counted first, then tested
unfoldable pub judged_line : Form → List ℕ → Option (List ℕ) → Taken
judged_line f rest none = bad_form
judged_line f rest (some ns) = cond (between f.least f.most (length ns)) (cond (f.fits ns) (entries ns rest) bad_range) bad_form

-- how many bytes stand before the first byte c
unfoldable pub count_before : ℕ → List ℕ → ℕ
count_before c [] = 0
count_before c (b ∷ bs) = let later = suc (count_before c bs) in cond (eqb b c) 0 later

-- "each ended by byte 10": the first line of some bytes; without a byte 10 it is missing or unended, which is wrong form
unfoldable pub take_line : Form → List ℕ → Taken
unfolding count_before judged_line line_numbers
take_line f bs =
    let end = count_before 10 bs in
    cond (ltb end (length bs)) (judged_line f (drop (suc end) bs) (line_numbers f.key (take end bs))) bad_form
