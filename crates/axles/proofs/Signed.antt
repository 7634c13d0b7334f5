-- Signed numbers of the code: how far they are from zero, and that the machine's number is the contract's.
use mathlib.Core.Path.{◌≡◌, refl, ap₂, ◌∙◌}
use Prim.Native.Nat.{ℕ, zero, suc, ◌+◌, ◌*◌, ◌^◌, ◌≤◌}
use native.Mathlib.Nat.{mul-le-mul, le_refl}
use native.Mathlib.Omega.{arith}
use lib.Dec.{T, ltb, ltb→lt}
use lib.IntN.{ℤ, pos, negsuc, neg_ℤ, nat_abs, ◌+ℤ◌, ◌-ℤ◌, ◌*ℤ◌}
use lib.Signed.{le_z}
use mir.Syntax.{w64}
use mir.Val.{SFits, to_z, of_z}
use mir.Facts.{to_z-of_z, to_z_pos}
use Rattle.meaning.proofs.Ring.{less, less_cases}

-- ---- how far from zero
-- a difference is no further than the greater of its two numbers
pub less_size : (a b k : ℕ) → a ≤ k → b ≤ k → nat_abs (less a b) ≤ k
less_size a b k h l = less_cases (λ z. nat_abs z ≤ k) a b (λ j e. omega arith) (λ j e. omega arith)

pub plus_size : (y z : ℤ) {a b : ℕ} → nat_abs y ≤ a → nat_abs z ≤ b → nat_abs (y +ℤ z) ≤ a + b
unfolding less
plus_size (pos m) (pos n) h k = omega arith
plus_size (pos m) (negsuc n) h k = less_size m (suc n) _ (omega arith) (omega arith)
plus_size (negsuc m) (pos n) h k = less_size n (suc m) _ (omega arith) (omega arith)
plus_size (negsuc m) (negsuc n) h k = omega arith

negative_size : (z : ℤ) → nat_abs (neg_ℤ z) ≡ nat_abs z
negative_size (pos zero) = refl
negative_size (pos (suc n)) = refl
negative_size (negsuc n) = refl

pub minus_size : (y z : ℤ) {a b : ℕ} → nat_abs y ≤ a → nat_abs z ≤ b → nat_abs (y -ℤ z) ≤ a + b
minus_size y z h k = plus_size y (neg_ℤ z) h (rw (negative_size z) k)

pub times_size : (y z : ℤ) {a b : ℕ} → nat_abs y ≤ a → nat_abs z ≤ b → nat_abs (y *ℤ z) ≤ a * b
times_size (pos m) (pos n) h k = mul-le-mul h k
times_size (pos m) (negsuc n) h k = rw (negative_size (pos (m * suc n))) (mul-le-mul h k)
times_size (negsuc m) (pos n) h k = rw (negative_size (pos (suc m * n))) (mul-le-mul h k)
times_size (negsuc m) (negsuc n) h k = mul-le-mul h k

-- ---- the machine's numbers
pub in_range_lem : (z : ℤ) {most : ℕ} → nat_abs z ≤ most → T (ltb most (2 ^ 63)) → SFits w64 z
in_range_lem (pos n) {most} h t = let l = ltb→lt most (2 ^ 63) t in record { sfits = omega arith }
in_range_lem (negsuc n) {most} h t = let l = ltb→lt most (2 ^ 63) t in record { sfits = omega arith }

-- a number that fits, stored and read again
pub stored : {z y : ℤ} → SFits w64 z → z ≡ y → to_z w64 (of_z w64 z) ≡ y
stored f e = to_z-of_z {w = w64} f ∙ e

-- ---- straight code: each number of the code, in the shape of the code's own expression
-- what is made fits, and what is read of it later is the contract's number, at most so far from zero; a bound is a numeral, and `tt` says
-- that it is below 2 ^ 63
pub record Amount : Type 0 where
  pub made : ℤ
  pub read : ℤ
  pub is : ℤ
  pub most : ℕ
  pub fits : SFits w64 made
  pub same : read ≡ is
  pub size : nat_abs is ≤ most

-- an unsigned number that was cast
abbrev pub unsigned : {n most : ℕ} → n ≤ most → T (ltb most (2 ^ 63)) → Amount
unsigned {n} {most} h t =
    let f = in_range_lem (pos n) h t in
    record { made = pos n; read = to_z w64 n; is = pos n; most = most; fits = f; same = to_z_pos w64 f.sfits; size = h }

abbrev pub literal : (n : ℕ) → T (ltb n (2 ^ 63)) → Amount
literal n t = unsigned (le_refl n) t

abbrev signed : {z y : ℤ} {most : ℕ} → SFits w64 z → z ≡ y → nat_abs y ≤ most → Amount
signed {z} {y} {most} f e h = record { made = z; read = to_z w64 (of_z w64 z); is = y; most = most; fits = f; same = stored f e; size = h }

-- a parameter, or the result of a call
abbrev pub given : {z : ℤ} {most : ℕ} → SFits w64 z → nat_abs z ≤ most → Amount
given f h = signed f refl h

-- the result of an operation
abbrev operation : {z y : ℤ} {most : ℕ} → z ≡ y → nat_abs y ≤ most → T (ltb most (2 ^ 63)) → Amount
operation {y} e h t = signed (rw e (in_range_lem y h t)) e h

abbrev pub plus : (a b : Amount) → T (ltb (a.most + b.most) (2 ^ 63)) → Amount
plus a b t = operation (ap₂ ◌+ℤ◌ a.same b.same) (plus_size a.is b.is a.size b.size) t

abbrev pub minus : (a b : Amount) → T (ltb (a.most + b.most) (2 ^ 63)) → Amount
minus a b t = operation (ap₂ ◌-ℤ◌ a.same b.same) (minus_size a.is b.is a.size b.size) t

abbrev pub times : (a b : Amount) → T (ltb (a.most * b.most) (2 ^ 63)) → Amount
times a b t = operation (ap₂ ◌*ℤ◌ a.same b.same) (times_size a.is b.is a.size b.size) t

pub at_most : (a b : Amount) → le_z a.read b.read ≡ le_z a.is b.is
at_most a b = rw (a.same, b.same)
