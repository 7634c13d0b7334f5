-- The digits of a number: how many they are, and how they are worked out from the last on.
use mathlib.Core.Path.{◌≡◌, refl, sym, ap, ◌∙◌}
use mathlib.Core.Logic.{⊎_elim}
use mathlib.Core.List.{List, [], ◌∷◌}
use Prim.Native.Nat.{ℕ, zero, suc, ◌+◌, ◌-◌, ◌*◌, ◌/◌, ◌%◌, ◌^◌, ◌≤◌, ◌<◌}
use native.Mathlib.Nat.{pow-suc, pow-le-pow_right, eq-or-lt_of_le}
use native.Mathlib.Omega.{arith}
use borrow.Author.Tests.{le-ltb, lt-ltb}
use lib.Dec.{lit<}
use lib.ListN.{length, set, drop, length-set, length-drop}
use lib.Seq.{drop-cons, drop-length, drop-set-lt, get_or-set_same}
use Rattle.meaning.specs.Print.{digits_onto, digits}
use Rattle.meaning.proofs.Tests.{by_less}

module _ (most n : ℕ) (tail : List ℕ) where
  -- a number below 10 is its one digit
  one_digit : n < 10 → digits_onto (suc most) n tail ≡ (48 + n) ∷ tail
  unfolding digits_onto
  one_digit h = rw (lt-ltb n 10 h)

  -- the last digit of a larger number stands behind those of its tenth
  last_digit : 10 ≤ n → digits_onto (suc most) n tail ≡ digits_onto most (n / 10) ((48 + n % 10) ∷ tail)
  unfolding digits_onto
  last_digit h = rw (le-ltb n 10 h)

-- ---- how many digits a number has
-- one more than k, where it is below 10 ^ (k + 1) and, unless k is 0, at least 10 ^ k
long_digits : (k most n : ℕ) (tail : List ℕ) → k ≤ most → (1 ≤ k → 10 ^ k ≤ n) → n < 10 ^ suc k → length (digits_onto (suc most) n tail) ≡ suc k + length tail
long_digits zero most n tail fuel low high = rw (one_digit most n tail (omega arith)) (omega arith)
long_digits (suc k) zero n tail fuel low high = absurd (omega arith)
long_digits (suc k) (suc most) n tail fuel low high =
    let least : 10 ^ k * 10 ≤ n = rw (← pow-suc 10 k) (low (omega arith)) in
    let most-is : n < 10 ^ suc k * 10 = rw (← pow-suc 10 (suc k)) high in
    let above : 0 ≤ k = omega arith in
    let some : 1 ≤ 10 ^ k = pow-le-pow_right (lit< tt) above in
    let below : n / 10 < 10 ^ suc k = omega arith in
    rw (last_digit (suc most) n tail (omega arith))
    (long_digits k most (n / 10) ((48 + n % 10) ∷ tail) (omega arith) (λ h. omega arith) below ∙ omega arith)

-- the state of the count: `power` is the least power of ten that was not compared yet
pub record Counting (n count power : ℕ) : Type 0 where
  pub more : ℕ
  pub counted : count ≡ suc more
  pub few : more ≤ 9
  pub reached : power ≡ 10 ^ suc more
  pub passed : 1 ≤ more → 10 ^ more ≤ n

pub counting_start : {n : ℕ} → Counting n 1 10
counting_start = record { more = 0; counted = refl; few = omega arith; reached = refl; passed = λ h. absurd (omega arith) }

module _ {n count power : ℕ} (s : Counting n count power) where
  pub counting_next : n < 4294967296 → power ≤ n → Counting n (count + 1) (power * 10)
  counting_next small h =
      let k = s.more in
      let wide : k ≡ 9 → 10000000000 ≤ n = λ e. rw (s.reached, e) at h in
      record {
        more = suc k;
        counted = omega (arith, s.counted);
        few = ⊎_elim (λ e. absurd (omega (arith, wide e))) (λ l. l) (eq-or-lt_of_le s.few);
        reached = rw s.reached (sym (pow-suc 10 (suc k)));
        passed = λ l. rw s.reached at h;
      }

  pub counting_end : n < power → (count ≡ length (digits n)) × (count ≤ 10)
  counting_end h =
      let k = s.more in
      let long = long_digits k 9 n [] s.few s.passed (rw s.reached at h) in
      omega (arith, s.counted, s.few, long)

-- ---- the digits from the last on
-- there is a digit
some_digit : (most n : ℕ) (tail : List ℕ) → length tail < length (digits_onto (suc most) n tail)
unfolding digits_onto
some_digit zero n tail = by_less (λ (l : List ℕ). length tail < length l) n 10 (λ h. omega arith) (λ h. omega arith)
some_digit (suc most) n tail =
    by_less (λ (l : List ℕ). length tail < length l) n 10 (λ h. omega arith) (λ h. omega (arith, some_digit most (n / 10) ((48 + n % 10) ∷ tail)))

pub some_digits : (n : ℕ) → 1 ≤ length (digits n)
some_digits n = some_digit 9 n []

-- the state of the writing: the digits of `rest`, in front of those that stand behind place `at`, are those of the number
pub record Placing (n : ℕ) (out : List ℕ) (rest at : ℕ) : Type 0 where
  pub most : ℕ
  pub small : rest < 10 ^ suc most
  pub inside : at < length out
  pub long : length out ≡ length (digits n)
  pub says : digits_onto (suc most) rest (drop (suc at) out) ≡ digits n

pub placing_start : (n : ℕ) (out : List ℕ) → n < 4294967296 → length out ≡ length (digits n) → Placing n out n (length out - 1)
placing_start n out small long =
    let some = some_digits n in
    let last : suc (length out - 1) ≡ length out = omega arith in
    record { most = 9; small = omega arith; inside = omega arith; long = long; says = rw (last, drop-length out) refl }

module _ {n : ℕ} {out : List ℕ} {rest at : ℕ} (s : Placing n out rest at) where
  -- a byte stored in front of those that stand
  stored : (x : ℕ) → drop at (set out at x) ≡ x ∷ drop (suc at) out
  stored x =
      let long : at < length (set out at x) = rw (length-set out at x) s.inside in
      rw (drop-cons (set out at x) at 0 long, get_or-set_same out at x 0 s.inside, drop-set-lt (suc at) out at x (omega arith)) refl

  module _ (large : 10 ≤ rest) where
    -- the tenth has a digit left
    tenth : (most : ℕ) → rest < 10 ^ suc most → (m : ℕ) × (most ≡ suc m) × (rest / 10 < 10 ^ suc m)
    tenth zero small = absurd (omega arith)
    tenth (suc m) small = let high : rest < 10 ^ suc m * 10 = rw (← pow-suc 10 (suc m)) small in (m, refl, omega arith)

    tail : List ℕ
    tail = (48 + rest % 10) ∷ drop (suc at) out

    next_says : (m : ℕ) → s.most ≡ suc m → digits_onto (suc m) (rest / 10) tail ≡ digits n
    unfolding tail
    next_says m e = rw (← e) (sym (last_digit s.most rest (drop (suc at) out) large)) ∙ s.says

    -- there is a place before this one
    pub placing_before : 1 ≤ at
    unfolding tail
    placing_before =
        let t = tenth s.most s.small in
        let same = ap length (next_says t.0 t.1) in
        omega (arith, same, s.long, some_digit t.0 (rest / 10) tail, length-drop (suc at) out, s.inside)

    pub placing_next : Placing n (set out at (48 + rest % 10)) (rest / 10) (at - 1)
    unfolding tail
    placing_next =
        let t = tenth s.most s.small in
        let before = placing_before in
        let place : suc (at - 1) ≡ at = omega arith in
        record {
          most = t.0;
          small = t.2;
          inside = rw (length-set out at (48 + rest % 10)) (omega (arith, s.inside));
          long = length-set out at (48 + rest % 10) ∙ s.long;
          says = rw (place, stored (48 + rest % 10)) (next_says t.0 t.1);
        }

  pub placing_end : rest < 10 → set out at (48 + rest) ≡ digits n
  placing_end h =
      let one = one_digit s.most rest (drop (suc at) out) h in
      let first : at ≡ 0 = omega (arith, ap length one, ap length s.says, s.long, length-drop (suc at) out, s.inside) in
      ap (λ (k : ℕ). drop k (set out at (48 + rest))) (sym first) ∙ stored (48 + rest) ∙ sym one ∙ s.says
