-- The sentence of an answer, as one line.
use Rattle.std.specs.Prelude.{ℕ, List, [], ◌∷◌, ◌++◌, ◌==◌, ◌&&◌, if◌then◌else◌, codes, decimal, map, slice_index_or}
use Rattle.meaning.specs.declared.Answer.{Answer}
use Rattle.sentence.specs.declared.TheConstants.{PATTERNS}
use Rattle.sentence.specs.Filled.{filled}

-- the pattern of a number
abbrev pub listed_of : List (List ℕ) → ℕ → List ℕ
listed_of patterns n = slice_index_or patterns n (codes "is no verdict")

-- what is said of an answer's verdict; verdict 22 says by its second place on which side a stack is outside
abbrev pub pattern_of : Answer → List ℕ
pattern_of a =
    if (a.number == 22) && (a.second == 1) then codes "outside: stack #, by its length"
    else (if (a.number == 22) && (a.second == 2) then codes "outside: stack #, by its width"
    else listed_of (map (λ pattern. pattern.now) PATTERNS) a.number)

-- the numbers for its marks
abbrev pub numbers_of : Answer → List ℕ
numbers_of a = if a.number == 0 then (a.cost ∷ a.trucks ∷ 0 ∷ []) else (a.first ∷ a.second ∷ a.third ∷ [])

-- the number of the verdict, what is said of it, and the line's end
abbrev pub sentence_of : Answer → List ℕ
sentence_of a = decimal a.number ++ (32 ∷ (filled (pattern_of a) (numbers_of a) ++ 10 ∷ []))
