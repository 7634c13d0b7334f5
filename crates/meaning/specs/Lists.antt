-- Lists and tests that compute: the vocabulary that the definitions of this folder are written in.
use Rattle.std.specs.Prelude.{◌≡◌, ◌⊎◌, Bool, true, false, not, ◌&&◌, ◌||◌, ℕ, zero, suc, ◌+◌, ◌-◌, leb, eqb, ℤ, pos, ◌+ℤ◌, length, take, drop, replicate}
use Rattle.std.proofs.Math.Bool.{cond}
use mathlib.Core.List.{List, [], ◌∷◌, ◌++◌}

-- ---- lists of anything
module _ {A : Type 0} where
  -- some element passes the test
  unfoldable pub any : (A → Bool) → List A → Bool
  any test [] = false
  any test (a ∷ l) = test a || any test l

  -- every element passes the test
  unfoldable pub all : (A → Bool) → List A → Bool
  all test [] = true
  all test (a ∷ l) = test a && all test l

  -- the elements that pass the test
  unfoldable pub filter : (A → Bool) → List A → List A
  filter test [] = []
  filter test (a ∷ l) = cond (test a) (a ∷ filter test l) (filter test l)

  -- each element once: the last of those that the test takes for the same
  unfoldable pub dedup : (A → A → Bool) → List A → List A
  unfolding any
  dedup same [] = []
  dedup same (a ∷ l) = cond (any (same a) l) (dedup same l) (a ∷ dedup same l)

  -- the element alone where the test holds, else nothing
  abbrev pub only_if : Bool → A → List A
  only_if true a = a ∷ []
  only_if false a = []

  -- the first n runs of w elements each
  unfoldable pub chunks : ℕ → ℕ → List A → List (List A)
  chunks w zero l = []
  chunks w (suc n) l = take w l ∷ chunks w n (drop w l)

  -- a sum over the elements, in whole numbers from 0
  unfoldable pub sum : (A → ℕ) → List A → ℕ
  sum f [] = 0
  sum f (a ∷ l) = f a + sum f l

  -- the same in signed numbers
  unfoldable pub sumℤ : (A → ℤ) → List A → ℤ
  sumℤ f [] = pos 0
  sumℤ f (a ∷ l) = f a +ℤ sumℤ f l

  -- a is an element of the list
  abbrev pub In : A → List A → Type 0
  In a [] = ⊥
  In a (b ∷ l) = (a ≡ b) ⊎ In a l

  -- P holds of every element
  abbrev pub Every : (A → Type 0) → List A → Type 0
  Every P [] = Unit {0}
  Every P (a ∷ l) = P a × Every P l

-- ---- lists of numbers
-- n numbers, counting up from a
unfoldable pub up_from : ℕ → ℕ → List ℕ
up_from a zero = []
up_from a (suc n) = a ∷ up_from (suc a) n

-- n lies between two numbers, both included
abbrev pub between : ℕ → ℕ → ℕ → Bool
between low high n = leb low n && leb n high

-- n is listed
abbrev pub listed : ℕ → List ℕ → Bool
listed n l = any (eqb n) l

-- no number is listed twice
unfoldable pub distinct : List ℕ → Bool
unfolding any
distinct [] = true
distinct (n ∷ l) = not (listed n l) && distinct l

-- the place of n in a list whose first place is k; 0 where n is not listed
unfoldable pub order_from : ℕ → ℕ → List ℕ → ℕ
order_from k n [] = 0
order_from k n (m ∷ l) = let later = order_from (suc k) n l in cond (eqb n m) k later

-- "an entry's place in its line, from 1, is its loading order"; 0 where it is not listed
abbrev pub order_in : List ℕ → ℕ → ℕ
order_in l n = order_from 1 n l

-- two lists have the same numbers
unfoldable pub same_numbers : List ℕ → List ℕ → Bool
same_numbers [] [] = true
same_numbers [] (n ∷ l) = false
same_numbers (n ∷ l) [] = false
same_numbers (n ∷ l) (k ∷ r) = eqb n k && same_numbers l r

-- the numbers, and zeros after them up to w words
abbrev pub padded : ℕ → List ℕ → List ℕ
padded w l = l ++ replicate (w - length l) 0
