-- Equations between signed numbers. A signed number is a difference of two whole numbers, and on those `omega` decides: see `ring` at the end.
use mathlib.Core.Path.{◌≡◌, refl, ◌∙◌, ap}
use Prim.Native.Nat.{ℕ, zero, suc, ◌+◌, ◌*◌, ◌-◌}
use native.Mathlib.Omega.{arith}
use lib.IntN.{ℤ, pos, negsuc, neg_ℤ, sub_ℕ, ◌+ℤ◌, ◌*ℤ◌}
use Rattle.meaning.proofs.Tests.{by_less}

-- a less b, as a signed number
unfoldable pub less : ℕ → ℕ → ℤ
less a b = sub_ℕ a b

-- by how much a signed number is above zero, and by how much below
unfoldable pub above : ℤ → ℕ
above (pos n) = n
above (negsuc n) = 0

unfoldable pub below : ℤ → ℕ
below (pos n) = 0
below (negsuc n) = suc n

-- a difference is a whole number, or the negative of one above zero
pub less_cases : (P : ℤ → Type 0) (a b : ℕ) → ((k : ℕ) → a ≡ b + k → P (pos k)) → ((k : ℕ) → b ≡ a + suc k → P (negsuc k)) → P (less a b)
unfolding less
less_cases P a b f g = by_less P a b (λ h. g (b - suc a) (omega arith)) (λ h. f (a - b) (omega arith))

-- a signed number is the difference that its two parts say
pub is_less : (z : ℤ) (a b : ℕ) → above z + b ≡ a + below z → z ≡ less a b
unfolding above below
is_less (pos n) a b h = less_cases (λ z. pos n ≡ z) a b (λ k e. ap pos (omega arith)) (λ k e. absurd (omega arith))
is_less (negsuc n) a b h = less_cases (λ z. negsuc n ≡ z) a b (λ k e. absurd (omega arith)) (λ k e. ap negsuc (omega arith))

less_is : (a b : ℕ) → above (less a b) + b ≡ a + below (less a b)
unfolding above below
less_is a b = less_cases (λ z. above z + b ≡ a + below z) a b (λ k e. omega arith) (λ k e. omega arith)

pub same_less : (a b c d : ℕ) → a + d ≡ c + b → less a b ≡ less c d
same_less a b c d h = is_less (less a b) c d (omega (arith, less_is a b))

pub apart_of : (z : ℤ) → z ≡ less (above z) (below z)
apart_of z = is_less z (above z) (below z) refl

pub of_pos : (a : ℕ) → pos a ≡ less a 0
unfolding above below
of_pos a = is_less (pos a) a 0 (omega arith)

-- ---- the parts of a negative, a sum and a product
neg_above : (z : ℤ) → above (neg_ℤ z) ≡ below z
unfolding above below
neg_above (pos zero) = refl
neg_above (pos (suc n)) = refl
neg_above (negsuc n) = refl

neg_below : (z : ℤ) → below (neg_ℤ z) ≡ above z
unfolding above below
neg_below (pos zero) = refl
neg_below (pos (suc n)) = refl
neg_below (negsuc n) = refl

plus_parts : (y z : ℤ) → above (y +ℤ z) + (below y + below z) ≡ (above y + above z) + below (y +ℤ z)
unfolding above below less
plus_parts (pos a) (pos b) = omega arith
plus_parts (pos a) (negsuc b) = omega (arith, less_is a (suc b))
plus_parts (negsuc a) (pos b) = omega (arith, less_is b (suc a))
plus_parts (negsuc a) (negsuc b) = omega arith

times_parts : (y z : ℤ) → above (y *ℤ z) + (above y * below z + below y * above z) ≡ (above y * above z + below y * below z) + below (y *ℤ z)
unfolding above below
times_parts (pos a) (pos b) = omega arith
times_parts (pos a) (negsuc b) = omega (arith, neg_above (pos (a * suc b)), neg_below (pos (a * suc b)))
times_parts (negsuc a) (pos b) = omega (arith, neg_above (pos (suc a * b)), neg_below (pos (suc a * b)))
times_parts (negsuc a) (negsuc b) = omega arith

-- ---- the same operations on differences
pub plus_less : (a b c d : ℕ) → less a b +ℤ less c d ≡ less (a + c) (b + d)
plus_less a b c d = is_less (less a b +ℤ less c d) (a + c) (b + d) (omega (arith, plus_parts (less a b) (less c d), less_is a b, less_is c d))

pub neg_less : (a b : ℕ) → neg_ℤ (less a b) ≡ less b a
neg_less a b = is_less (neg_ℤ (less a b)) b a (omega (arith, neg_above (less a b), neg_below (less a b), less_is a b))

pub neg_pos : (n : ℕ) → neg_ℤ (pos n) ≡ less 0 n
neg_pos n = ap neg_ℤ (of_pos n) ∙ neg_less n 0

-- (u − v)(p − q) and (a − b)(c − d) for equal factors
crossed : (a b c d u v p q : ℕ) → u + b ≡ a + v → p + d ≡ c + q → (u * p + v * q) + (a * d + b * c) ≡ (u * q + v * p) + (a * c + b * d)
crossed a b c d u v p q e f = omega (arith, ap (λ (t : ℕ). t * p) e, ap (λ (t : ℕ). t * q) e, ap (λ (t : ℕ). a * t) f, ap (λ (t : ℕ). b * t) f)

pub times_less : (a b c d : ℕ) → less a b *ℤ less c d ≡ less (a * c + b * d) (a * d + b * c)
times_less a b c d =
    let y = less a b in
    let z = less c d in
    is_less (y *ℤ z) (a * c + b * d) (a * d + b * c)
    (omega (arith, times_parts y z, crossed a b c d (above y) (below y) (above z) (below z) (less_is a b) (less_is c d)))

-- an equation over signed variables y, z: `rw (apart_of y, apart_of z) (simp ring (same_less _ _ _ _ (omega arith)))`
pub ruleset ring = (neg_pos, of_pos, plus_less, times_less, neg_less)
