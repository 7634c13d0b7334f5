-- Lines whose numbers are those of the model, and places that are counted from 1.
use mathlib.Core.Path.{◌≡◌, ap}
use mathlib.Core.List.{List, [], ◌∷◌}
use Prim.Native.Nat.{ℕ, ◌+◌, ◌-◌, ◌≤◌}
use Prim.Native.String.{String}
use native.Mathlib.Omega.{arith}
use lib.ListN.{length, get_or}
use Rattle.meaning.specs.Text.{bytes}
use Rattle.meaning.specs.Reorder.{ended}
use Rattle.meaning.specs.Print.{printed_line}
use Rattle.printing.specs.declared.Writer.{Writer}
use Rattle.printing.specs.Wrote.{line_bytes}
use Rattle.printing.specs.Appended.{HasRoom, Appended}

-- the numbers that a line is written from are those of the model
module _ (key : String) {r ns : List ℕ} (e : r ≡ ns) where
  line_is : line_bytes (bytes key) r ≡ ended (printed_line key ns)
  unfolding printed_line
  line_is = ap (line_bytes (bytes key)) e

  pub line_room : {w : Writer} → HasRoom (ended (printed_line key ns)) w → HasRoom (line_bytes (bytes key) r) w
  line_room room = rw line_is room

  -- what the writer of a line asks
  pub line_asks : {w : Writer} → 1 ≤ length ns → HasRoom (ended (printed_line key ns)) w → (1 ≤ length r) × HasRoom (line_bytes (bytes key) r) w
  line_asks some room = (rw e some, line_room room)

  pub line_wrote : {before now : Writer} → Appended (line_bytes (bytes key) r) before now → Appended (ended (printed_line key ns)) before now
  line_wrote w = rw (← line_is) w

-- a line with one number
pub one : {a b : ℕ} → a ≡ b → (a ∷ []) ≡ (b ∷ [])
one e = ap (λ (n : ℕ). n ∷ []) e

-- the element behind the first k has the number k + 1
pub numbered : {A : Type 0} (l : List A) (d : A) (k : ℕ) → get_or l (k + 1 - 1) d ≡ get_or l k d
numbered l d k = let e : k + 1 - 1 ≡ k = omega arith in ap (λ (j : ℕ). get_or l j d) e
