-- Bytes from an index on: what the byte at the index decides of a count and of a value after its key.
use mathlib.Core.Path.{◌≡◌, refl, sym, ap}
use mathlib.Core.Logic.{◌↔◌}
use mathlib.Core.Bool.{Bool, true, false, cond, ◌&&◌}
use mathlib.Core.Option.{none, some}
use mathlib.Core.List.{List, [], ◌∷◌}
use Prim.Native.Nat.{ℕ, zero, suc, ◌+◌, ◌-◌, ◌≤◌, ◌<◌}
use native.Mathlib.Nat.{add-zero}
use native.Mathlib.Omega.{arith}
use denote.Ref.{Bor}
use borrow.Author.Tests.{ltb-false, eqb-true, eqb-false, eq-eqb, ne_eqb}
use lib.Dec.{eqb, ltb}
use lib.ListN.{length, get_or, take, drop, length-drop, drop_of_length-le}
use lib.Seq.{take_all}
use lib.Pointwise.{pointwise}
use Rattle.std.specs.Prelude.{Option, None, Some, MatchOption, unwrap_or, position}
use Rattle.std.specs.List.{position_or_len}
use Rattle.std.proofs.lemmas.List.Recursion.{is_position_or_len}
use Rattle.meaning.specs.Text.{count_before, value_after}
use Rattle.meaning.proofs.Tests.{or_false, same_test, lt_reads, iff_trans, iff_sym}
use Rattle.meaning.proofs.Lists.{drop_next}
use Rattle.text.specs.Words.{lent, one_of}

-- all that is left of some bytes
pub take_rest : (bs : List ℕ) (i : ℕ) → take (length bs - i) (drop i bs) ≡ drop i bs
take_rest bs i = take_all (length bs - i) (drop i bs) (omega (arith, length-drop i bs))

-- ---- a count of the bytes before a certain one
pub count_at : (c : ℕ) (bs : List ℕ) (i : ℕ) → i < length bs
    → (get_or bs i 0 ≡ c → count_before c (drop i bs) ≡ 0) × ((get_or bs i 0 ≡ c → ⊥) → count_before c (drop i bs) ≡ suc (count_before c (drop (i + 1) bs)))
unfolding count_before
count_at c bs i h = ((λ e. rw (drop_next bs i 0) (simp (eq-eqb _ _ e))), (λ f. rw (drop_next bs i 0) (simp (ne_eqb _ _ f))))

pub count_end : (c : ℕ) (bs : List ℕ) (i : ℕ) → length bs ≤ i → count_before c (drop i bs) ≡ 0
unfolding count_before
count_end c bs i h = rw (drop_of_length-le bs h)

-- where none of n bytes is that one, the count goes on behind them
pub count_past : (c : ℕ) (bs : List ℕ) (i n : ℕ) → i + n ≤ length bs → one_of c bs i n ≡ false
    → count_before c (drop i bs) ≡ n + count_before c (drop (i + n) bs)
count_past c bs i zero h e = simp add-zero (omega arith)
count_past c bs i (suc zero) h e = omega (arith, (count_at c bs i (omega arith)).1 (eqb-false _ _ e))
count_past c bs i (suc (suc n)) h e =
    let both = (or_false (one_of c bs i (suc n)) (eqb (get_or bs (i + suc n) 0) c)).0 e in
    let next : i + suc n + 1 ≡ i + suc (suc n) = omega arith in
    omega (arith, count_past c bs i (suc n) (omega arith) both.0, rw next at ((count_at c bs (i + suc n) (omega arith)).1 (eqb-false _ _ both.1)))

pub count_within : (c : ℕ) (bs : List ℕ) → count_before c bs ≤ length bs
unfolding count_before
count_within c [] = omega arith
count_within c (b ∷ bs) = go (eqb b c) (count_within c bs)
  where
    go : (t : Bool) → count_before c bs ≤ length bs → cond t 0 (suc (count_before c bs)) ≤ suc (length bs)
    go true h = omega arith
    go false h = omega arith

-- the library's search for the byte stops there
pub count_is : (c : ℕ) (bs : List ℕ) → count_before c bs ≡ position_or_len (λ b. eqb b c) bs
unfolding count_before
count_is c = is_position_or_len (count_before c) (λ b. eqb b c) refl (λ b bs. let more : suc (count_before c bs) ≡ 1 + count_before c bs = omega arith in ap (λ n. cond (eqb b c) 0 n) more)

pub found_or_end : (c : ℕ) (bs : List ℕ) {r : Option ℕ} → r ≡ position (λ b. eqb b c) bs → unwrap_or r (length bs) ≡ count_before c bs
unfolding count_before
found_or_end c bs e = rw (e, count_is c bs) (go (position_or_len (λ b. eqb b c) bs) (ltb (position_or_len (λ b. eqb b c) bs) (length bs)) refl (rw count_is at (count_within c bs)))
  where
    go : (n : ℕ) (t : Bool) → ltb n (length bs) ≡ t → n ≤ length bs → unwrap_or (cond t (Some n) None) (length bs) ≡ n
    go n true p h = refl
    go n false p h = omega (arith, ltb-false n (length bs) p)

-- where the byte's index was counted from another index on: the bytes between, and whether it is there
module _ (c : ℕ) (bs : List ℕ) (from end : ℕ) (found : end ≡ from + count_before c (drop from bs)) where
  pub found_size : end - from ≡ count_before c (drop from bs)
  found_size = omega arith

  pub found_test : ltb end (length bs) ≡ ltb (count_before c (drop from bs)) (length (drop from bs))
  found_test =
      let long = length-drop from bs in
      let same : (end < length bs) ↔ (count_before c (drop from bs) < length (drop from bs)) = ((λ h. omega arith), (λ h. omega arith)) in
      same_test _ _ (iff_trans (lt_reads _ _) (iff_trans same (iff_sym (lt_reads _ _))))

  pub found_within : from ≤ length bs → end ≤ length bs
  found_within h = omega (arith, count_within c (drop from bs), length-drop from bs)

-- ---- the value after a key
after_key : (key line : List ℕ) → value_after key line ≡ cond (pointwise eqb (take (length key) line) key) (some (drop (length key) line)) none
unfolding value_after
after_key [] line = refl
after_key (k ∷ key) [] = refl
after_key (k ∷ key) (b ∷ line) = go (eqb k b) (eqb b k) refl refl (after_key key line)
  where
    go : (t u : Bool) → eqb k b ≡ t → eqb b k ≡ u
        → value_after key line ≡ cond (pointwise eqb (take (length key) line) key) (some (drop (length key) line)) none
        → cond t (value_after key line) none ≡ cond (u && pointwise eqb (take (length key) line) key) (some (drop (length key) line)) none
    go true true p q rec = rec
    go false false p q rec = refl
    go true false p q rec = absurd (eqb-false b k q (sym (eqb-true k b p)))
    go false true p q rec = absurd (eqb-false k b p (sym (eqb-true b k q)))

-- what the library answers where it takes the key off the line's front
pub key_off : (key line : List ℕ) (r : Option (Bor (List ℕ)))
    → MatchOption r (pointwise eqb (take (length key) line) key ≡ false)
    (λ x. (pointwise eqb (take (length key) line) key ≡ true) × (x.now ≡ drop (length key) line) × (length x.now + length key ≡ length line))
    → lent r ≡ value_after key line
key_off key line None e = sym (rw e at (after_key key line))
key_off key line (Some x) e = rw e.1 (sym (rw e.0 at (after_key key line)))
