-- Tests over the words from an index on: what a word decides of them, and how they end.
use mathlib.Core.Path.{◌≡◌, refl, sym, ap, ◌∙◌}
use mathlib.Core.Bool.{Bool, true, false, ◌&&◌, ◌||◌, and-true, and_assoc, or_comm}
use mathlib.Core.List.{List, [], ◌∷◌}
use Prim.Native.Nat.{ℕ, ◌+◌, ◌-◌, ◌*◌, ◌≤◌, ◌<◌}
use native.Mathlib.Numerals.{add-one}
use native.Mathlib.Omega.{arith}
use borrow.Author.Tests.{eq-eqb, ne_eqb}
use lib.Dec.{eqb}
use lib.ListN.{length, get_or, take, drop, drop_of_length-le}
use lib.Seq.{drop-cons}
use Rattle.meaning.specs.Lists.{all, any, between, listed, distinct, order_from}
use Rattle.meaning.specs.Files.{all_within}
use Rattle.meaning.proofs.Lists.{drop_next}
use Rattle.std.proofs.lemmas.List.{take_rest}
use Rattle.std.specs.Prelude.{fold}
use Rattle.std.specs.List.{zip}
use Rattle.ranges.specs.declared.Range.{Range as InCode}
use Rattle.ranges.specs.Ranges.{ranges_of, row_numbers}

-- ---- words in one range
all_from : (test : ℕ → Bool) (inside : Bool) (ws : List ℕ) → fold (λ inside w. inside && test w) inside ws ≡ (inside && all test ws)
unfolding all
all_from test inside [] = sym (and-true inside)
all_from test inside (w ∷ ws) = all_from test (inside && test w) ws ∙ and_assoc inside (test w) (all test ws)

pub all_folded : (low high : ℕ) (ws : List ℕ) {inside : Bool} → inside ≡ fold (λ inside w. inside && between low high w) true ws
    → inside ≡ all (between low high) ws
all_folded low high ws e = e ∙ all_from (between low high) true ws

-- ---- words in the ranges of a table
within_from : (ws : List ℕ) (rs : List InCode) (inside : Bool) → length ws ≤ length rs
    → fold (λ inside p. inside && between p.1.0 p.1.1 p.0) inside (zip ws rs) ≡ (inside && all_within (ranges_of rs) ws)
unfolding all_within
within_from [] [] inside h = sym (and-true inside)
within_from [] (r ∷ rs) inside h = sym (and-true inside)
within_from (w ∷ ws) [] inside h = absurd (omega arith)
within_from (w ∷ ws) (r ∷ rs) inside h =
    within_from ws rs (inside && between r.0 r.1 w) (omega arith) ∙ and_assoc inside (between r.0 r.1 w) (all_within (ranges_of rs) ws)

pub within_zip : (ws : List ℕ) (rs : List InCode) → length ws ≤ length rs
    → fold (λ inside p. inside && between p.1.0 p.1.1 p.0) true (zip ws rs) ≡ all_within (ranges_of rs) ws
within_zip ws rs h = within_from ws rs true h

-- ---- the words from an index on: whether they are distinct is decided by the word at the index, and the part behind it
module _ (ws : List ℕ) (i : ℕ) (h : i < length ws) where
  pub distinct_on : listed (get_or ws i 0) (take (length ws - (i + 1)) (drop (i + 1) ws)) ≡ false → distinct (drop i ws) ≡ distinct (drop (i + 1) ws)
  unfolding distinct
  distinct_on e = rw (drop_next ws i 0 h) (simp (rw (take_rest ws (i + 1)) at e))

  pub distinct_off : listed (get_or ws i 0) (take (length ws - (i + 1)) (drop (i + 1) ws)) ≡ true → distinct (drop i ws) ≡ false
  unfolding distinct
  distinct_off e = rw (drop_next ws i 0 h) (simp (rw (take_rest ws (i + 1)) at e))

-- ---- behind the last word
module _ (ws : List ℕ) (i : ℕ) (h : length ws ≤ i) where
  pub distinct_end : distinct (drop i ws) ≡ true
  unfolding distinct
  distinct_end = rw (drop_of_length-le ws h)

-- ---- a stack's number looked for from the first row on
module _ (part : List ℕ) (number : ℕ) where
  pub repeated_before : false ≡ listed number (row_numbers 0 part)
  unfolding any row_numbers
  repeated_before = refl

  pub repeated_next : (k : ℕ) (repeated : Bool) → repeated ≡ listed number (row_numbers k part)
      → repeated || eqb number (get_or part (8 * k) 0) ≡ listed number (row_numbers (k + 1) part)
  unfolding any row_numbers
  repeated_next k repeated e = rw (add-one, or_comm repeated (eqb number (get_or part (8 * k) 0))) (ap (λ b. eqb number (get_or part (8 * k) 0) || b) e)

-- ---- the place of a number in a list, from 1, with i numbers passed: the next is the one, or the next is another
module _ (n : ℕ) (l : List ℕ) (i : ℕ) (h : i < length l) where
  pub order_found : get_or l i 0 ≡ n → order_from (i + 1) n (drop i l) ≡ i + 1
  unfolding order_from
  order_found e = rw (drop-cons l i 0 h, eq-eqb n (get_or l i 0) (sym e)) refl

  pub order_passed : (get_or l i 0 ≡ n → ⊥) → order_from (i + 1) n (drop i l) ≡ order_from (i + 1 + 1) n (drop (i + 1) l)
  unfolding order_from
  order_passed e = rw (drop-cons l i 0 h, ne_eqb n (get_or l i 0) (λ q. e (sym q)), add-one (i + 1), add-one i) refl
