-- The parts of a value, each found by its comma, and the state of a loop that stores them one after the other.
use mathlib.Core.Path.{◌≡◌, refl, sym, ap, ◌∙◌}
use mathlib.Core.Bool.{Bool, true, false, cond, and-false}
use mathlib.Core.Option.{Option as Maybe, none, some}
use mathlib.Core.List.{List, [], ◌∷◌}
use Prim.Native.Nat.{ℕ, zero, suc, ◌+◌, ◌-◌, ◌≤◌, ◌<◌}
use native.Mathlib.Nat.{add-zero, zero-add, sub-zero}
use native.Mathlib.Numerals.{add-one}
use native.Mathlib.Omega.{arith}
use borrow.Author.Tests.{leb-true, leb-false, le-leb, lt-leb, le-ltb, lt-ltb}
use lib.Dec.{eqb, ltb, leb, leb-suc-suc}
use lib.ListN.{length, take, drop, set, length-set, length-drop}
use lib.Seq.{sets}
use Rattle.std.specs.Prelude.{Option, None, Some}
use Rattle.std.specs.Bool.{then_some}
use Rattle.meaning.specs.Lists.{between}
use Rattle.meaning.specs.Text.{count_before, number, numbers, and_numbers, comma_parts, onto_first}
use Rattle.meaning.proofs.Lists.{drop_next}
use Rattle.meaning.proofs.Tests.{lt_reads}
use Rattle.text.specs.Words.{first_part, parsed_part, parsed_numbers, onto_words, leading}
use Rattle.text.specs.declared.ParsedNumber.{ParsedNumber}
use Rattle.text.proofs.Bytes.{take_rest, count_within}
use Rattle.text.proofs.Numbers.{IsWordOf, word_read, none_read}

-- ---- the first part ends before the first comma; after the comma stand the others
parts_split : (bs : List ℕ)
    → comma_parts bs ≡ take (count_before 44 bs) bs ∷ cond (ltb (count_before 44 bs) (length bs)) (comma_parts (drop (suc (count_before 44 bs)) bs)) []
unfolding count_before comma_parts onto_first
parts_split [] = refl
parts_split (b ∷ bs) = go (eqb b 44) (parts_split bs)
  where
    others : ℕ → List ℕ → List (List ℕ)
    others end l = cond (ltb end (length l)) (comma_parts (drop (suc end) l)) []

    go : (t : Bool) → comma_parts bs ≡ take (count_before 44 bs) bs ∷ others (count_before 44 bs) bs
        → cond t ([] ∷ comma_parts bs) (onto_first b (comma_parts bs))
        ≡ take (cond t 0 (suc (count_before 44 bs))) (b ∷ bs) ∷ others (cond t 0 (suc (count_before 44 bs))) (b ∷ bs)
    go true rec = rw ((lt_reads 0 (suc (length bs))).1 (omega arith))
    go false rec = rw rec (simp leb-suc-suc)

-- the same with the comma's place
pub parts_at : (bs : List ℕ) (end : ℕ) → end ≡ count_before 44 bs
    → comma_parts bs ≡ first_part bs ∷ cond (ltb end (length bs)) (comma_parts (drop (end + 1) bs)) []
parts_at bs end found = rw (add-one, found) (parts_split bs)

-- ---- the answer where k numbers were read before these
abbrev pub answer_after : ℕ → ℕ → ℕ → Maybe (List ℕ) → Option ℕ
answer_after least most k none = None
answer_after least most k (some ns) = cond (between least most (k + length ns)) (Some (k + length ns)) None

module _ (least most : ℕ) where
  after_none : (os : Maybe (List ℕ)) → answer_after least most 0 os ≡ parsed_numbers least most os
  unfolding parsed_numbers
  after_none none = refl
  after_none (some ns) = rw zero-add

  -- one number more
  after_one : (k n : ℕ) (os : Maybe (List ℕ)) → answer_after least most k (and_numbers (some n) os) ≡ answer_after least most (k + 1) os
  unfolding and_numbers
  after_one k n none = refl
  after_one k n (some ns) = let same : k + suc (length ns) ≡ k + 1 + length ns = omega arith in rw same

  -- more numbers than there is room for
  after_full : (k : ℕ) (os : Maybe (List ℕ)) → most < k → answer_after least most k os ≡ None
  after_full k none h = refl
  after_full k (some ns) h =
      let over : most < k + length ns = omega arith in
      simp (lt-leb (k + length ns) most over, and-false)

-- a part that is no number is the end of the words
leading_none : (room : ℕ) (part : List ℕ) (parts : List (List ℕ)) → number part ≡ none → leading room (part ∷ parts) ≡ []
unfolding leading onto_words
leading_none zero part parts e = refl
leading_none (suc room) part parts e = rw e

-- ---- the state of the loop: these parts are still to come, and they give the same answer and the same words as all parts do
pub record ToCome (least : ℕ) (all : List (List ℕ)) (out₀ out : List ℕ) (count : ℕ) (parts : List (List ℕ)) : Type 0 where
  pub long : length out ≡ length out₀
  pub room : count ≤ length out
  pub answer : answer_after least (length out₀) count (numbers parts) ≡ parsed_numbers least (length out₀) (numbers all)
  pub words : sets out count (leading (length out - count) parts) ≡ sets out₀ 0 (leading (length out₀) all)

-- what is promised of the answer and of the words
abbrev pub Promised : ℕ → List (List ℕ) → List ℕ → List ℕ → Option ℕ → Type 0
Promised least all out₀ out r = (r ≡ parsed_numbers least (length out₀) (numbers all)) × (out ≡ sets out₀ 0 (leading (length out₀) all))

pub all_to_come : (least : ℕ) (all : List (List ℕ)) (out : List ℕ) → ToCome least all out out 0 all
all_to_come least all out = record { long = refl; room = omega arith; answer = after_none least (length out) (numbers all); words = rw sub-zero }

module _ {least : ℕ} {all : List (List ℕ)} {out₀ out : List ℕ} {count : ℕ} where
  -- no part is left
  too_few : ToCome least all out₀ out count [] → count < least → Promised least all out₀ out None
  unfolding numbers leading
  too_few t h = (rw (add-zero, lt-leb least count h) at t.answer, t.words)

  enough : ToCome least all out₀ out count [] → least ≤ count → Promised least all out₀ out (Some count)
  unfolding numbers leading
  enough t h =
      let fits : count ≤ length out₀ = omega (arith, t.room, t.long) in
      (rw (add-zero, le-leb least count h, le-leb count (length out₀) fits) at t.answer, t.words)

  -- as the library answers the count where a test holds
  pub counted : ToCome least all out₀ out count [] → Promised least all out₀ out (then_some (leb least count) count)
  counted t = go (leb least count) refl
    where
      go : (b : Bool) → leb least count ≡ b → Promised least all out₀ out (then_some b count)
      go true e = enough t (leb-true least count e)
      go false e = too_few t (leb-false least count e)

  module _ {part : List ℕ} {parts : List (List ℕ)} (t : ToCome least all out₀ out count (part ∷ parts)) where
    -- the part is no number
    pub malformed : number part ≡ none → Promised least all out₀ out None
    unfolding numbers and_numbers
    malformed e = (rw e at t.answer, rw (leading_none (length out - count) part parts e) at t.words)

    module _ {w : ℕ} (e : IsWordOf part w) where
      later : answer_after least (length out₀) (count + 1) (numbers parts) ≡ parsed_numbers least (length out₀) (numbers all)
      unfolding numbers
      later = sym (after_one least (length out₀) count e.0 (numbers parts)) ∙ rw e.1 at t.answer

      -- there is no room for it
      pub no_room : count ≡ length out → Promised least all out₀ out None
      unfolding leading
      no_room h =
          let over : length out₀ < count + 1 = omega (arith, t.long) in
          let none_left : length out - count ≡ 0 = omega arith in
          (sym (after_full least (length out₀) (count + 1) (numbers parts) over) ∙ later, rw none_left at t.words)

      -- it is stored
      pub stored : count < length out → ToCome least all out₀ (set out count w) (count + 1) parts
      unfolding leading onto_words
      stored h =
          let left : length out - count ≡ suc (length out - suc count) = omega arith in
          record {
            long = length-set out count w ∙ t.long;
            room = rw length-set (omega arith);
            answer = later;
            words = rw (length-set, add-one) (rw (left, e.1, ← e.2) at t.words);
          }

-- ---- a turn of the loop, with the part that stands at the front of the bytes that are left
module _ {least : ℕ} {all : List (List ℕ)} {out₀ out : List ℕ} {count : ℕ} (bs : List ℕ) (t : ToCome least all out₀ out count (comma_parts bs)) where
  part_first : (end : ℕ) → end ≡ count_before 44 bs
      → ToCome least all out₀ out count (first_part bs ∷ cond (ltb end (length bs)) (comma_parts (drop (end + 1) bs)) [])
  part_first end found = rw (parts_at bs end found) at t

  pub none_stored : None ≡ parsed_part bs → Promised least all out₀ out None
  none_stored e = malformed (part_first _ refl) (none_read bs e)

  -- each element of `out` has its number, and a part is left
  pub all_stored : length out ≤ count → Promised least all out₀ out None
  all_stored h = go (parsed_part bs) refl
    where
      go : (r : Option ParsedNumber) → parsed_part bs ≡ r → Promised least all out₀ out None
      go None e = none_stored (sym e)
      go (Some r) e = no_room (part_first _ refl) (word_read bs r (sym e)).0 (omega (arith, t.room))

  module _ (r : ParsedNumber) (e : Some r ≡ parsed_part bs) (h : count < length out) where
    one_stored : ToCome least all out₀ (set out count r.as_word) (count + 1) (cond (ltb r.len (length bs)) (comma_parts (drop (r.len + 1) bs)) [])
    one_stored = let read = word_read bs r e in stored (part_first r.len read.1) read.0 h

    pub part_within : r.len ≤ length bs
    part_within = omega (arith, (word_read bs r e).1, count_within 44 bs)

    -- nothing stands behind it
    pub last_stored : length (take (length bs - r.len) (drop r.len bs)) ≡ 0 → ToCome least all out₀ (set out count r.as_word) (count + 1) []
    last_stored none_left = rw (le-ltb r.len (length bs) (omega (arith, rw take_rest at none_left, length-drop r.len bs))) at one_stored

    -- a comma does, and others behind it
    pub more_stored : (comma : ℕ) (others : List ℕ) → take (length bs - r.len) (drop r.len bs) ≡ comma ∷ others
        → ToCome least all out₀ (set out count r.as_word) (count + 1) (comma_parts others)
    more_stored comma others behind =
        let left : drop r.len bs ≡ comma ∷ others = rw take_rest at behind in
        let within : r.len < length bs = omega (arith, ap length left, length-drop r.len bs) in
        let next : others ≡ drop (r.len + 1) bs = cc (drop_next bs r.len 0 within) in
        rw next (rw (lt-ltb r.len (length bs) within) at one_stored)
