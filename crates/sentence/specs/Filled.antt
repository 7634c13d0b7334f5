-- A text with numbers in the places of its marks. A mark is a '#', byte 35.
use Rattle.std.specs.Prelude.{ℕ, List, [], ◌∷◌, ◌++◌, ◌==◌, if◌then◌else◌, decimal}

-- the first number for the first mark; a mark past the last number stands for nothing
unfoldable pub filled : List ℕ → List ℕ → List ℕ
filled [] numbers = []
filled (c ∷ text) [] = if c == 35 then filled text [] else (c ∷ filled text [])
filled (c ∷ text) (n ∷ numbers) =
    if c == 35 then (decimal n ++ filled text numbers) else (c ∷ filled text (n ∷ numbers))
