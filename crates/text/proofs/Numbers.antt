-- Numbers by their digits: a part from an index on, when some bytes are what their digits are, and the state of a loop over the digits.
use mathlib.Core.Path.{◌≡◌, refl, sym, ap, ◌∙◌}
use mathlib.Core.Bool.{Bool, true, false, cond, not, ◌&&◌, and-false}
use mathlib.Core.Option.{Option as Maybe, none, some}
use mathlib.Core.List.{List, ◌∷◌}
use Prim.Native.Nat.{ℕ, suc, ◌+◌, ◌-◌, ◌*◌, ◌^◌, ◌≤◌, ◌<◌}
use native.Mathlib.Nat.{pow-suc, pow-le-pow_right}
use native.Mathlib.Numerals.{add-one}
use native.Mathlib.Omega.{arith}
use borrow.Author.Tests.{eqb-true, ltb-true, le-leb, lt-leb, lt-ltb, eq-eqb}
use lib.Dec.{eqb, ltb, lit≤}
use lib.ListN.{length, get_or, drop, length-drop}
use lib.Seq.{length-take-le}
use Rattle.std.specs.Prelude.{Option, None, Some, Result, Ok, Err}
use Rattle.std.specs.Result.{OkIff, result_unwrap_or}
use Rattle.meaning.specs.Lists.{between}
use Rattle.meaning.specs.Text.{is_digit, decimal_from, needless_zero, number, count_before}
use Rattle.meaning.proofs.Tests.{and_reads, between_reads, fails}
use Rattle.meaning.proofs.Lists.{drop_next}
use Rattle.text.specs.declared.ParsedNumber.{ParsedNumber}
use Rattle.text.specs.Words.{word, parsed_number, first_part, parsed_part}
use Rattle.text.proofs.Bytes.{count_at, count_within}

-- ---- the part from an index on
part_size : (bs : List ℕ) → length (first_part bs) ≡ count_before 44 bs
part_size bs = length-take-le (count_before 44 bs) bs (count_within 44 bs)

part_at : (bs : List ℕ) (i : ℕ) → i < length bs → (get_or bs i 0 ≡ 44 → ⊥) → first_part (drop i bs) ≡ get_or bs i 0 ∷ first_part (drop (i + 1) bs)
part_at bs i h f = rw ((count_at 44 bs i h).1 f, drop_next bs i 0) refl

part_begins : (bs : List ℕ) (i : ℕ) → 1 ≤ count_before 44 (drop i bs) → get_or (first_part (drop i bs)) 0 0 ≡ get_or bs i 0
part_begins bs i h =
    let inside : i < length bs = omega (arith, count_within 44 (drop i bs), length-drop i bs) in
    ap (λ (l : List ℕ). get_or l 0 0) (part_at bs i inside (λ e. omega (arith, (count_at 44 bs i inside).0 e)))

-- ---- what bytes are as a number
-- 1 to 10 bytes without needless zero are the number of their digits
plain_number : (bs : List ℕ) → 1 ≤ length bs → length bs ≤ 10 → (1 < length bs → get_or bs 0 0 ≡ 48 → ⊥) → number bs ≡ decimal_from 0 bs
unfolding number
plain_number bs h k plain =
    let needed : needless_zero bs ≡ false = fails (needless_zero bs) (λ e.
    let t = (and_reads (ltb 1 (length bs)) (eqb (get_or bs 0 0) 48)).0 e in
    plain (ltb-true 1 (length bs) t.0) (eqb-true (get_or bs 0 0) 48 t.1)) in
    simp (le-leb 1 (length bs) h, le-leb (length bs) 10 k, needed)

-- too many bytes, or one that is no digit
long_number : (bs : List ℕ) → 10 < length bs → number bs ≡ none
unfolding number
long_number bs h = simp (lt-leb (length bs) 10 h, and-false)

no_number : (bs : List ℕ) → decimal_from 0 bs ≡ none → number bs ≡ none
unfolding number
no_number bs e = rw e (go (between 1 10 (length bs) && not (needless_zero bs)))
  where
    go : (t : Bool) → ◌≡◌ {A = Maybe ℕ} (cond t none none) none
    go true = refl
    go false = refl

-- ---- the first i digits were read as n: with n in front, the rest of the part is what the whole part is
pub record Passed (bs : List ℕ) (n i : ℕ) : Type 0 where
  pub few : i ≤ 10
  pub small : n < 10 ^ i
  pub ends : i + count_before 44 (drop i bs) ≡ count_before 44 bs
  pub same : decimal_from n (first_part (drop i bs)) ≡ decimal_from 0 (first_part bs)

pub none_passed : (bs : List ℕ) → Passed bs 0 0
none_passed bs = record { few = omega arith; small = omega arith; ends = omega arith; same = refl }

module _ {bs : List ℕ} {n i : ℕ} (p : Passed bs n i) where
  -- ten digits fit a word of 64 bits with room to spare
  pub ten_digits_lem : n < 10 ^ 10
  ten_digits_lem =
      let room : 10 ^ i ≤ 10 ^ 10 = pow-le-pow_right (lit≤ tt) p.few in
      omega (arith, p.small)

  abbrev Answer : Option ParsedNumber → Type 0
  Answer r = r ≡ parsed_part bs

  -- the part is no number
  refused : number (first_part bs) ≡ none → Answer None
  unfolding parsed_part parsed_number
  refused e = rw e refl

  module _ (h : i < length bs) where
    -- a byte that is neither digit nor comma
    pub no_digit : (48 ≤ get_or bs i 0 → get_or bs i 0 ≤ 57 → ⊥) → (get_or bs i 0 ≡ 44 → ⊥) → Answer None
    unfolding decimal_from
    no_digit other f =
        let none_there : is_digit (get_or bs i 0) ≡ false = fails (is_digit (get_or bs i 0)) (λ e. let r = (between_reads 48 57 (get_or bs i 0)).0 e in other r.0 r.1) in
        refused (no_number _ (sym p.same ∙ rw (part_at bs i h f, none_there) refl))

    module _ (low : 48 ≤ get_or bs i 0) (high : get_or bs i 0 ≤ 57) where
      digit : is_digit (get_or bs i 0) ≡ true
      digit = (between_reads 48 57 (get_or bs i 0)).1 (low, high)

      no_comma : get_or bs i 0 ≡ 44 → ⊥
      no_comma e = omega arith

      count_goes_on : count_before 44 (drop i bs) ≡ suc (count_before 44 (drop (i + 1) bs))
      count_goes_on = (count_at 44 bs i h).1 no_comma

      pub eleventh : 10 ≤ i → Answer None
      eleventh ten = refused (long_number (first_part bs) (omega (arith, part_size bs, p.ends, count_goes_on)))

      pub one_passed : i < 10 → Passed bs (10 * n + (get_or bs i 0 - 48)) (i + 1)
      unfolding decimal_from
      one_passed room =
          record {
            few = omega arith;
            small = rw (add-one, pow-suc) (omega (arith, p.small));
            ends = omega (arith, p.ends, count_goes_on);
            same = sym (rw (part_at bs i h no_comma, digit) refl) ∙ p.same;
          }

  -- the part ends here
  module _ (ended : count_before 44 (drop i bs) ≡ 0) where
    size : length (first_part bs) ≡ i
    size = omega (arith, part_size bs, p.ends)

    digits : decimal_from 0 (first_part bs) ≡ some n
    unfolding decimal_from
    digits = sym p.same ∙ rw ended refl

    pub starts_inside : 0 < i → 0 < length bs
    starts_inside h = omega (arith, p.ends, count_within 44 bs)

    begins : 0 < i → get_or (first_part bs) 0 0 ≡ get_or bs 0 0
    begins h = part_begins bs 0 (omega (arith, p.ends))

    pub empty : i ≡ 0 → Answer None
    unfolding number
    empty e = refused (let none-there : length (first_part bs) ≡ 0 = omega (arith, size) in rw none-there refl)

    pub needless : 1 < i → get_or bs 0 0 ≡ 48 → Answer None
    unfolding number
    needless h e =
        let zero-first : get_or (first_part bs) 0 0 ≡ 48 = begins (omega arith) ∙ e in
        refused (simp (lt-ltb 1 (length (first_part bs)) (omega (arith, size)), eq-eqb _ 48 zero-first, and-false))

    pub number_read : (i ≡ 0 → ⊥) → (1 < i → get_or bs 0 0 ≡ 48 → ⊥) → Answer (Some (record { as_word = word n; len = i }))
    unfolding parsed_part parsed_number
    number_read f plain =
        let part = first_part bs in
        let same : number part ≡ some n =
        plain_number part (omega (arith, size)) (omega (arith, size, p.few))
        (λ h e. plain (omega (arith, size)) (sym (begins (omega (arith, size))) ∙ e)) ∙ digits in
        let end : count_before 44 bs ≡ i = omega (arith, p.ends) in
        rw (same, end) refl

-- the largest word stands for a number that fits none
pub fitted : {E : Type 0} (n : ℕ) (r : Result ℕ E) → OkIff r (n < 2 ^ 32) n → result_unwrap_or r 4294967295 ≡ word n
fitted n (Ok m) h = omega (arith, h.0, h.1)
fitted n (Err e) h = let large : 2 ^ 32 ≤ n = omega (arith, h) in omega arith

-- ---- what the answer tells of the part: the part is a number, which the word stands for and which is as long
abbrev pub IsWordOf : List ℕ → ℕ → Type 0
IsWordOf part w = (n : ℕ) × (number part ≡ some n) × (w ≡ word n)

pub word_read : (bs : List ℕ) (r : ParsedNumber) → Some r ≡ parsed_part bs → IsWordOf (first_part bs) r.as_word × (r.len ≡ count_before 44 bs)
unfolding parsed_part parsed_number
word_read bs r e = go (number (first_part bs)) refl e
  where
    go : (o : Maybe ℕ) → number (first_part bs) ≡ o → Some r ≡ parsed_number (count_before 44 bs) o
        → IsWordOf (first_part bs) r.as_word × (r.len ≡ count_before 44 bs)
    go none q e = cc
    go (some n) q e = let same : r ≡ record { as_word = word n; len = count_before 44 bs } = cc in ((n, q, ap (λ (x : ParsedNumber). x.as_word) same), ap (λ (x : ParsedNumber). x.len) same)

pub none_read : (bs : List ℕ) → None ≡ parsed_part bs → number (first_part bs) ≡ none
unfolding parsed_part parsed_number
none_read bs e = go (number (first_part bs)) e
  where
    go : (o : Maybe ℕ) → None ≡ parsed_number (count_before 44 bs) o → o ≡ none
    go none e = refl
    go (some n) e = cc
