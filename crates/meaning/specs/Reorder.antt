-- Document 01: "Putting a plan's stacks in another order moves each stack= line together with its load= line. The stacks= line, the instance
-- and the table's length stay." This is said of the bytes of the plan.
use Rattle.std.specs.Prelude.{◌≡◌, false, ℕ}
use mathlib.Core.List.{List, [], ◌∷◌, ◌++◌, flat_map, Permᴰ}
use Rattle.meaning.specs.Lists.{listed, Every}

-- a stack= line and its load= line, without their bytes 10
pub record LinePair : Type 0 where
  pub stack_line : List ℕ
  pub load_line : List ℕ

-- a line with its byte 10
abbrev pub ended : List ℕ → List ℕ
ended line = line ++ (10 ∷ [])

-- the two lines as they stand in the plan
abbrev pub pair_bytes : LinePair → List ℕ
pair_bytes b = ended b.stack_line ++ ended b.load_line

-- a plan of a first line and of pairs
unfoldable pub plan_of : List ℕ → List LinePair → List ℕ
unfolding flat_map
plan_of first pairs = ended first ++ flat_map pair_bytes pairs

-- no byte 10 stands inside a line
abbrev pub OneLine : List ℕ → Type 0
OneLine line = listed 10 line ≡ false

-- both lines of a pair are lines
pub record OneLineEach (b : LinePair) : Type 0 where
  pub stack_line : OneLine b.stack_line
  pub load_line : OneLine b.load_line

-- `after` is the plan `before` with its pairs in another order
pub record Reordered (before after : List ℕ) : Type 0 where
  pub first : List ℕ
  pub pairs : List LinePair
  pub moved : List LinePair
  pub first_is_line : OneLine first
  pub pairs_are_lines : Every OneLineEach pairs
  pub permuted : Permᴰ pairs moved
  pub is_before : before ≡ plan_of first pairs
  pub is_after : after ≡ plan_of first moved
