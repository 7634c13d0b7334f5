-- A loop over a list that is left at the first element which fails a test: what it has passed does not decide any more.
use mathlib.Core.Path.{◌≡◌, refl, sym, ap, ap₂, ◌∙◌}
use mathlib.Core.Bool.{Bool, true, false, ◌&&◌}
use mathlib.Core.List.{List, ◌∷◌, ◌++◌}
use Prim.Native.Nat.{ℕ, zero, suc, ◌+◌, ◌*◌, ◌≤◌, ◌<◌}
use native.Mathlib.Numerals.{add-one}
use native.Mathlib.Omega.{arith}
use lib.ListN.{length, get_or, take, drop, length-append, length-drop, drop_of_length-le}
use lib.Seq.{take_at, drop_at, drop-drop}
use Rattle.meaning.specs.Lists.{all, chunks, up_from}
use Rattle.meaning.proofs.Lists.{drop_next, length_up_from, up_from_at}

-- the elements from place k on decide whether all pass
pub record Passed {A : Type 0} (test : A → Bool) (l : List A) (k : ℕ) : Type 0 where
  pub upto : k ≤ length l
  pub decides : all test (drop k l) ≡ all test l

module _ {A : Type 0} {test : A → Bool} {l : List A} where
  -- at the next element, where t tells whether it passes
  module _ {k : ℕ} (h : Passed test l k) (d : A) {a : A} {t : Bool} (m : k < length l) (here : get_or l k d ≡ a) (told : t ≡ test a) where
    next_decides : all test (drop k l) ≡ (t && all test (drop (k + 1) l))
    unfolding all
    next_decides = ap (all test) (drop_next l k d m) ∙ ap (λ (b : Bool). b && all test (drop (k + 1) l)) (ap test here ∙ sym told)

    pub passed_one : t ≡ true → Passed test l (k + 1)
    passed_one e = record { upto = omega arith; decides = sym (next_decides ∙ ap (λ (b : Bool). b && all test (drop (k + 1) l)) e) ∙ h.decides }

    pub failed_one : t ≡ false → all test l ≡ false
    failed_one e = sym h.decides ∙ next_decides ∙ ap (λ (b : Bool). b && all test (drop (k + 1) l)) e

  -- behind the last
  pub passed_all : {k : ℕ} → Passed test l k → length l ≤ k → all test l ≡ true
  unfolding all
  passed_all {k} h m = sym h.decides ∙ ap (all test) (drop_of_length-le l m)

-- what a function answers that goes on with another test behind the loop
pub and_failed : {b : Bool} (later : Bool) → b ≡ false → false ≡ (b && later)
and_failed later e = sym (ap (λ (c : Bool). c && later) e)

pub and_passed : {b later r : Bool} → b ≡ true → r ≡ later → r ≡ (b && later)
and_passed {later = later} e k = k ∙ sym (ap (λ (c : Bool). c && later) e)

-- the same, where the result t of a call tells what the test is
pub test_failed : {t b : Bool} (later : Bool) → t ≡ b → t ≡ false → false ≡ (b && later)
test_failed later told e = and_failed later (sym told ∙ e)

pub test_passed : {t b later r : Bool} → t ≡ b → t ≡ true → r ≡ later → r ≡ (b && later)
test_passed told e k = and_passed (sym told ∙ e) k

-- ---- rows of w words, of which `left` are left at the front of `rest`, and the next is `row`
module _ (w later : ℕ) (row behind : List ℕ) {left : ℕ} {rest : List ℕ} (next : later + 1 ≡ left) (cut : rest ≡ row ++ behind) (wide : length row ≡ w) where
  pub rows_fit : w * left ≤ length rest → w * later ≤ length behind
  rows_fit room =
      let e : w * left ≡ w * later + w = let more : w * suc later ≡ w * later + w = omega arith in ap (λ (k : ℕ). w * k) (omega (arith, next)) ∙ more in
      omega (arith, e, room, wide, ap length cut ∙ length-append row behind)

  module _ (test : List ℕ → Bool) {t : Bool} (told : t ≡ test row) where
    row_decides : all test (chunks w left rest) ≡ (t && all test (chunks w later behind))
    unfolding all chunks
    row_decides =
        let one_more : left ≡ suc later = omega (arith, next) in
        ap₂ (λ (k : ℕ) (ws : List ℕ). all test (chunks w k ws)) one_more cut
        ∙ ap₂ (λ (a b : List ℕ). test a && all test (chunks w later b)) (take_at row behind w wide) (drop_at row behind w wide)
        ∙ ap (λ (b : Bool). b && all test (chunks w later behind)) (sym told)

    module _ {whole : Bool} (decides : all test (chunks w left rest) ≡ whole) where
      pub row_passed : t ≡ true → all test (chunks w later behind) ≡ whole
      row_passed e = sym (row_decides ∙ ap (λ (b : Bool). b && all test (chunks w later behind)) e) ∙ decides

      pub row_failed : t ≡ false → whole ≡ false
      row_failed e = sym decides ∙ row_decides ∙ ap (λ (b : Bool). b && all test (chunks w later behind)) e

-- none is left
pub rows_end : (test : List ℕ → Bool) (w left : ℕ) (rest : List ℕ) {whole : Bool} → all test (chunks w left rest) ≡ whole → left ≡ 0 → whole ≡ true
unfolding all chunks
rows_end test w left rest decides none = sym decides ∙ ap (λ (k : ℕ). all test (chunks w k rest)) none

-- a row that is asked for where some are left is there
pub rows_there : (w left : ℕ) {size : ℕ} (rest : List ℕ) → size ≡ w → w * left ≤ length rest → (0 < left → length rest < size) → left ≡ 0
rows_there w zero rest wide room out = refl
rows_there w (suc left) rest wide room out =
    let e : w * suc left ≡ w * left + w = omega arith in
    absurd (omega (arith, e, wide, room, out (omega arith)))

-- ---- places from 0 on, of which k have passed
module _ {test : ℕ → Bool} (n : ℕ) {k : ℕ} (h : Passed test (up_from 0 n) k) where
  module _ {t : Bool} (m : k < n) (told : t ≡ test k) where
    place_here : get_or (up_from 0 n) k 0 ≡ k
    place_here = up_from_at 0 n k 0 m ∙ omega arith

    pub place_passed : t ≡ true → Passed test (up_from 0 n) (k + 1)
    place_passed e = passed_one h 0 (omega (arith, length_up_from 0 n)) place_here told e

    pub place_failed : t ≡ false → (later : Bool) → false ≡ (all test (up_from 0 n) && later)
    place_failed e later = and_failed later (failed_one h 0 (omega (arith, length_up_from 0 n)) place_here told e)

  pub places_passed : {r later : Bool} → n ≤ k → r ≡ later → r ≡ (all test (up_from 0 n) && later)
  places_passed e told = and_passed (passed_all h (omega (arith, length_up_from 0 n))) told

-- ---- a list and rows of w words side by side, of which k have passed
module _ (k : ℕ) (l : List ℕ) {left behind : List ℕ} {x : ℕ} (at : left ≡ drop k l) (next : left ≡ x ∷ behind) where
  pub more_listed : k < length l
  more_listed = omega (arith, ap length (sym next ∙ at), length-drop k l)

  same_rest : x ∷ behind ≡ get_or l k 0 ∷ drop (k + 1) l
  same_rest = sym next ∙ at ∙ drop_next l k 0 more_listed

  pub listed_here : x ≡ get_or l k 0
  listed_here = ap (λ (r : List ℕ). get_or r 0 0) same_rest

  pub listed_later : behind ≡ drop (k + 1) l
  listed_later = ap (drop 1) same_rest

module _ (w k : ℕ) (rows row behind : List ℕ) {left : List ℕ} (at : left ≡ drop (w * k) rows) (cut : left ≡ row ++ behind) (wide : length row ≡ w) where
  pub row_here : row ≡ take w (drop (w * k) rows)
  row_here = sym (take_at row behind w wide) ∙ ap (take w) (sym cut ∙ at)

  pub row_later : behind ≡ drop (w * (k + 1)) rows
  row_later =
      let e : w * suc k ≡ w * k + w = omega arith in
      sym (drop_at row behind w wide) ∙ ap (drop w) (sym cut ∙ at) ∙ drop-drop w (w * k) rows ∙ ap (λ (j : ℕ). drop j rows) (sym e) ∙ ap (λ (j : ℕ). drop (w * j) rows) (sym (add-one k))
