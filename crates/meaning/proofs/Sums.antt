-- Sums over a list: of fewer terms, of terms that are no larger, of one number for every element.
use mathlib.Core.Path.{◌≡◌, refl}
use mathlib.Core.Logic.{inl, inr}
use mathlib.Core.Bool.{Bool, true, false, cond}
use mathlib.Core.List.{List, [], ◌∷◌, flat_map}
use Prim.Native.Nat.{ℕ, zero, suc, ◌+◌, ◌*◌, ◌≤◌, ◌<◌}
use native.Mathlib.Omega.{arith}
use lib.ListN.{length, get_or, take, drop, length-append}
use Rattle.meaning.specs.Lists.{In, filter, sum}

module _ {A : Type 0} where
  -- ---- fewer terms
  module _ (f : A → ℕ) where
    sum_parts : (n : ℕ) (l : List A) → sum f (take n l) + sum f (drop n l) ≡ sum f l
    unfolding sum
    sum_parts zero l = omega arith
    sum_parts (suc n) [] = omega arith
    sum_parts (suc n) (a ∷ l) = omega (arith, sum_parts n l)

    pub sum_take : (n : ℕ) (l : List A) → sum f (take n l) ≤ sum f l
    sum_take n l = omega (arith, sum_parts n l)

    pub sum_drop : (n : ℕ) (l : List A) → sum f (drop n l) ≤ sum f l
    sum_drop n l = omega (arith, sum_parts n l)

    pub sum_filter : (test : A → Bool) (l : List A) → sum f (filter test l) ≤ sum f l
    unfolding sum filter
    sum_filter test [] = omega arith
    sum_filter test (a ∷ l) = go (test a) (sum_filter test l)
      where
        go : (b : Bool) → sum f (filter test l) ≤ sum f l → sum f (cond b (a ∷ filter test l) (filter test l)) ≤ f a + sum f l
        go true h = omega arith
        go false h = omega arith

  -- ---- terms that are no larger
  pub sum_below : (f g : A → ℕ) (l : List A) → ((a : A) → In a l → f a ≤ g a) → sum f l ≤ sum g l
  unfolding sum
  sum_below f g [] h = omega arith
  sum_below f g (a ∷ l) h = let k = sum_below f g l (λ b m. h b (inr m)) in omega (arith, h a (inl refl), k)

  -- all at most one number
  pub sum_most : (f : A → ℕ) (d : A) (most : ℕ) (l : List A) → ((j : ℕ) → j < length l → f (get_or l j d) ≤ most) → sum f l ≤ most * length l
  unfolding sum
  sum_most f d most [] h = omega arith
  sum_most f d most (a ∷ l) h = omega (arith, h 0 (omega arith), sum_most f d most l (λ j k. h (suc j) (omega arith)))

  -- ---- a number for every element, and a factor of every term
  pub sum_constant : (k : ℕ) (l : List A) → sum (λ (a : A). k) l ≡ k * length l
  unfolding sum
  sum_constant k [] = omega arith
  sum_constant k (a ∷ l) = omega (arith, sum_constant k l)

  pub sum_factor : (k : ℕ) (f : A → ℕ) (l : List A) → sum (λ (a : A). k * f a) l ≡ k * sum f l
  unfolding sum
  sum_factor k f [] = omega arith
  sum_factor k f (a ∷ l) = omega (arith, sum_factor k f l)

  -- ---- how long a list is: no longer with fewer elements
  pub filter_most : (test : A → Bool) (l : List A) → length (filter test l) ≤ length l
  filter_most test l = omega (arith, sum_filter (λ (a : A). 1) test l, sum_constant 1 (filter test l), sum_constant 1 l)

  -- and the lists of all elements together
  pub length_flat_map : {B : Type 0} (g : A → List B) (l : List A) → length (flat_map g l) ≡ sum (λ (a : A). length (g a)) l
  unfolding flat_map sum
  length_flat_map g [] = refl
  length_flat_map g (a ∷ l) = rw (length-append, length_flat_map g l)
