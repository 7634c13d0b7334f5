-- The range of some loading orders, by each order: whatever list has the same orders has the same range.
use mathlib.Core.Path.{◌≡◌}
use mathlib.Core.Logic.{◌↔◌}
use mathlib.Core.Bool.{cond}
use mathlib.Core.List.{List, [], ◌∷◌, map}
use Prim.Native.Nat.{ℕ, ◌≤◌, min, max}
use native.Mathlib.Omega.{arith}
use lib.Dec.{ltb}
use Rattle.meaning.specs.Lists.{Every}
use Rattle.meaning.proofs.Tests.{by_less}
use Rattle.meaning.proofs.Permute.{Same, same_every}
use Rattle.views.specs.Views.{range_of}

-- ---- one order more
pub lower_one : (a b : ℕ) → cond (ltb a b) a b ≡ min a b
lower_one a b = by_less (λ n. n ≡ min a b) a b (λ h. omega arith) (λ h. omega arith)

pub higher_one : (a b : ℕ) → cond (ltb b a) a b ≡ max a b
higher_one a b = by_less (λ n. n ≡ max a b) b a (λ h. omega arith) (λ h. omega arith)

-- ---- the orders of a list's elements
module _ {A : Type 0} (order : A → ℕ) where
  -- a number (up to 8) is at most the lowest exactly when it is at most each order
  pub range_low : (l : List A) (n : ℕ) → (n ≤ (range_of (map order l)).lowest) ↔ ((n ≤ 8) × Every (λ (a : A). n ≤ order a) l)
  unfolding range_of
  range_low [] n = ((λ h. (h, tt)), (λ h. h.0))
  range_low (a ∷ l) n = rw (lower_one (order a) (range_of (map order l)).lowest) (
    (λ h. let k = (range_low l n).0 (omega arith) in (k.0, (omega arith, k.1))),
    (λ h. let k = (range_low l n).1 (h.0, h.1.1) in omega arith),
  )

  -- the highest is at most a number exactly when each order is
  pub range_high : (l : List A) (n : ℕ) → ((range_of (map order l)).highest ≤ n) ↔ Every (λ (a : A). order a ≤ n) l
  unfolding range_of
  range_high [] n = ((λ h. tt), (λ h. omega arith))
  range_high (a ∷ l) n = rw (higher_one (order a) (range_of (map order l)).highest) (
    (λ h. (omega arith, (range_high l n).0 (omega arith))),
    (λ h. let k = (range_high l n).1 h.1 in omega arith),
  )

  -- ---- lists with the same elements
  lowest_upto : (l l' : List A) → Same l l' → (range_of (map order l)).lowest ≤ (range_of (map order l')).lowest
  lowest_upto l l' s =
      let n = (range_of (map order l)).lowest in
      let h = (range_low l n).0 (omega arith) in
      (range_low l' n).1 (h.0, same_every (λ (a : A). n ≤ order a) l l' s h.1)

  highest_upto : (l l' : List A) → Same l l' → (range_of (map order l')).highest ≤ (range_of (map order l)).highest
  highest_upto l l' s =
      let n = (range_of (map order l)).highest in
      (range_high l' n).1 (same_every (λ (a : A). order a ≤ n) l l' s ((range_high l n).0 (omega arith)))

  module _ (l l' : List A) (s : Same l l') where
    pub lowest_same : (range_of (map order l)).lowest ≡ (range_of (map order l')).lowest
    lowest_same = omega (arith, lowest_upto l l' s, lowest_upto l' l (s.1, s.0))

    pub highest_same : (range_of (map order l)).highest ≡ (range_of (map order l')).highest
    highest_same = omega (arith, highest_upto l l' s, highest_upto l' l (s.1, s.0))
