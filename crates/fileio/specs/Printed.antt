-- What the programs print of an answer.
use Rattle.std.specs.Prelude.{ℕ, List, [], ◌∷◌, ◌++◌, codes, decimal}
use Rattle.meaning.specs.declared.Answer.{Answer}

-- a line: a word of the answer, its number and the line's end
abbrev pub answer_line : List ℕ → ℕ → List ℕ
answer_line word n = word ++ (decimal n ++ 10 ∷ [])

-- the answer in six lines
abbrev pub answer_lines : Answer → List ℕ
answer_lines answer =
    answer_line (codes "number=") answer.number
    ++ (answer_line (codes "first=") answer.first
    ++ (answer_line (codes "second=") answer.second
    ++ (answer_line (codes "third=") answer.third
    ++ (answer_line (codes "cost=") answer.cost
    ++ answer_line (codes "trucks=") answer.trucks))))
