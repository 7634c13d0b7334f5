-- Parts of the two files, as their writers write them one behind the other.
use mathlib.Core.List.{List, [], ◌∷◌, ◌++◌, flat_map}
use Rattle.std.specs.Prelude.{ℕ, length}
use Prim.Native.String.{String}
use Rattle.meaning.specs.Model.{Instance, Stack}
use Rattle.meaning.specs.Reorder.{ended, pair_bytes}
use Rattle.meaning.specs.Print.{printed_line, printed_stack}

-- a line for each list of numbers, all with the same key
abbrev pub lines_of : String → List (List ℕ) → List ℕ
lines_of key l = flat_map (λ ns. ended (printed_line key ns)) l

-- the first five lines of the instance file
abbrev pub head_bytes : Instance → List ℕ
head_bytes i =
    ended (printed_line "transport=" (i.αT ∷ []))
    ++ (ended (printed_line "inventory=" (i.αI ∷ []))
    ++ (ended (printed_line "extra=" (i.αE ∷ []))
    ++ (ended (printed_line "items=" (length i.items ∷ []))
    ++ ended (printed_line "trucks=" (length i.trucks ∷ [])))))

-- the two lines of a stack
abbrev pub stack_bytes : Stack → List ℕ
stack_bytes s = pair_bytes (printed_stack s)
