-- A line as it is written: each number with what follows it, a comma or, behind the last, byte 10.
use mathlib.Core.Path.{◌≡◌, refl, ap, ◌∙◌}
use mathlib.Core.List.{List, [], ◌∷◌, ◌++◌, map, append_assoc}
use Prim.Native.Nat.{ℕ, ◌+◌, ◌≤◌, ◌<◌}
use native.Mathlib.Omega.{arith}
use lib.ListN.{length, get_or, drop, drop_of_length-le}
use Rattle.meaning.specs.Reorder.{ended}
use Rattle.meaning.specs.Print.{digits, comma_joined}
use Rattle.meaning.proofs.Lists.{drop_next}
use Rattle.printing.specs.declared.Writer.{Writer}
use Rattle.printing.specs.Wrote.{line_bytes}
use Rattle.printing.specs.Appended.{Appended}
use Rattle.printing.proofs.Progress.{Onward, onward_next}

-- what follows a number: where other numbers are behind it, a comma
unfoldable pub separator : List ℕ → ℕ
separator [] = 10
separator (n ∷ ns) = 44

-- the numbers, each with what follows it
unfoldable pub separated : List ℕ → List ℕ
unfolding separator
separated [] = []
separated (n ∷ ns) = digits n ++ separator ns ∷ separated ns

-- they are the numbers of a line
separated_is : (ns : List ℕ) → 1 ≤ length ns → ended (comma_joined (map digits ns)) ≡ separated ns
unfolding comma_joined separated separator
separated_is [] h = absurd (omega arith)
separated_is (n ∷ []) h = refl
separated_is (n ∷ m ∷ ns) h =
    append_assoc (digits n) (44 ∷ comma_joined (map digits (m ∷ ns))) (10 ∷ [])
    ∙ ap (λ (l : List ℕ). digits n ++ 44 ∷ l) (separated_is (m ∷ ns) (omega arith))

-- behind the key
pub line_is : (key ns : List ℕ) → 1 ≤ length ns → line_bytes key ns ≡ key ++ separated ns
line_is key ns some = append_assoc key (comma_joined (map digits ns)) (10 ∷ []) ∙ ap (λ (l : List ℕ). key ++ l) (separated_is ns some)

-- ---- the numbers from place i on
module _ (ns : List ℕ) (i : ℕ) where
  pub next_number : i < length ns → separated (drop i ns) ≡ digits (get_or ns i 0) ++ separator (drop (i + 1) ns) ∷ separated (drop (i + 1) ns)
  unfolding separated
  next_number h = rw (drop_next ns i 0 h)

  -- after the number what follows it is still to be written
  pub number_behind : {whole : List ℕ} {start now next : Writer} → i < length ns → Onward whole start now (separated (drop i ns))
      → Appended (digits (get_or ns i 0)) now next → Onward whole start next (separator (drop (i + 1) ns) ∷ separated (drop (i + 1) ns))
  number_behind h o w = onward_next o w (next_number h)

  pub no_number : length ns ≤ i → separated (drop i ns) ≡ []
  unfolding separated
  no_number h = rw (drop_of_length-le ns h)

  pub behind_last : length ns ≤ i → separator (drop i ns) ≡ 10
  unfolding separator
  behind_last h = rw (drop_of_length-le ns h)

  pub behind_other : i < length ns → separator (drop i ns) ≡ 44
  unfolding separator
  behind_other h = rw (drop_next ns i 0 h)
