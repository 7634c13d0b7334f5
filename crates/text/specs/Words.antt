-- What the functions of this crate answer and store, in the words of the meaning.
use denote.Ref.{Bor}
use Rattle.std.specs.Prelude.{Bool, false, cond, ◌||◌, Option, None, Some, List, [], ◌∷◌, ℕ, zero, suc, ◌+◌, min, eqb, ltb, length, get_or, take}
use Rattle.std.proofs.Math.Option.{Option as Maybe, none, some}
use Rattle.meaning.specs.Lists.{between}
use Rattle.meaning.specs.Text.{number, comma_parts, numbers_of, value_after, count_before}
use Rattle.meaning.specs.Table.{largest_word}
use Rattle.text.specs.declared.ParsedNumber.{ParsedNumber}
use Rattle.text.specs.declared.ParsedLine.{ParsedLine}

-- a number as a 32-bit word; the largest word stands for every number that does not fit
abbrev pub word : ℕ → ℕ
word n = min n largest_word

-- ---- the answers
-- whether the byte c is one of the n bytes from the place i on; the first has a case of its own, so that its place is i itself, as in the source
abbrev pub one_of : ℕ → List ℕ → ℕ → ℕ → Bool
one_of c bs i zero = false
one_of c bs i (suc zero) = eqb (get_or bs i 0) c
one_of c bs i (suc (suc n)) = one_of c bs i (suc n) || eqb (get_or bs (i + suc n) 0) c

-- the bytes that are lent, if any are
abbrev pub lent : Option (Bor (List ℕ)) → Maybe (List ℕ)
lent None = none
lent (Some part) = some part.now

-- of a part of so many bytes that is a number, or none
unfoldable pub parsed_number : ℕ → Maybe ℕ → Option ParsedNumber
parsed_number len none = None
parsed_number len (some n) = Some (record { as_word = word n; len = len })

-- the bytes before the first comma
abbrev pub first_part : List ℕ → List ℕ
first_part bs = take (count_before 44 bs) bs

-- of the first part of some bytes
unfoldable pub parsed_part : List ℕ → Option ParsedNumber
unfolding parsed_number number count_before
parsed_part bs = parsed_number (count_before 44 bs) (number (first_part bs))

-- of numbers that are to be `least` to `most`: how many they are
unfoldable pub parsed_numbers : ℕ → ℕ → Maybe (List ℕ) → Option ℕ
parsed_numbers least most none = None
parsed_numbers least most (some ns) = cond (between least most (length ns)) (Some (length ns)) None

-- of a line that ends before the byte `end`
unfoldable pub line_answer : ℕ → Option ℕ → Option ParsedLine
line_answer end (Some n) = Some (record { next = end + 1; count = n })
line_answer end None = None

-- of the first line of some bytes, which begin at the place `at` of their file
unfoldable pub parsed_line : List ℕ → ℕ → ℕ → ℕ → List ℕ → Option ParsedLine
unfolding line_answer parsed_numbers numbers_of value_after count_before
parsed_line key least most at bs =
    let end = count_before 10 bs in
    cond (ltb end (length bs)) (line_answer (at + end) (parsed_numbers least most (numbers_of (value_after key (take end bs))))) None

-- ---- the words that are stored
-- one word more at the front, where there is a number
unfoldable pub onto_words : Maybe ℕ → List ℕ → List ℕ
onto_words none ws = []
onto_words (some n) ws = word n ∷ ws

-- of the parts of a value: as far as they are numbers and there is room
unfoldable pub leading : ℕ → List (List ℕ) → List ℕ
unfolding onto_words number
leading room [] = []
leading zero (part ∷ parts) = []
leading (suc room) (part ∷ parts) = onto_words (number part) (leading room parts)

-- of a value, where there is one
unfoldable pub value_words : ℕ → Maybe (List ℕ) → List ℕ
unfolding leading comma_parts
value_words room none = []
value_words room (some value) = leading room (comma_parts value)

-- of the first line of some bytes
unfoldable pub line_words : List ℕ → ℕ → List ℕ → List ℕ
unfolding value_words value_after count_before
line_words key room bs =
    let end = count_before 10 bs in
    cond (ltb end (length bs)) (value_words room (value_after key (take end bs))) []
