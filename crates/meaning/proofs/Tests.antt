-- Tests read as statements: each connective and each comparison once, in both directions.
use mathlib.Core.Path.{◌≡◌, refl, sym, subst}
use mathlib.Core.Logic.{◌⊎◌, inl, inr, ⊎_elim, ◌↔◌}
use mathlib.Core.Bool.{Bool, true, false, cond, not, ◌&&◌, ◌||◌}
use Prim.Native.Nat.{ℕ, ◌≤◌, ◌<◌}
use native.Mathlib.Omega.{arith}
use borrow.Author.Tests.{ltb-true, ltb-false, lt-ltb, leb-true, le-leb, eqb-true, eq-eqb}
use lib.Dec.{T, leb, ltb, eqb}
use lib.IntN.{ℤ}
use lib.Signed.{le_z, ◌≤ℤ◌}
use Rattle.meaning.specs.Lists.{between}

pub true≢false : true ≡ false → ⊥
true≢false e = let z : ◌≡◌ {A = ℕ} 0 1 = cc in omega arith

-- a test holds or fails
pub decide : (b : Bool) → (b ≡ true) ⊎ (b ≡ false)
decide true = inl refl
decide false = inr refl

pub not_reads : (b : Bool) → (not b ≡ true) ↔ (b ≡ true → ⊥)
not_reads true = ((λ e k. true≢false (sym e)), (λ f. absurd (f refl)))
not_reads false = ((λ e k. true≢false (sym k)), (λ f. refl))

pub and_reads : (a b : Bool) → ((a && b) ≡ true) ↔ ((a ≡ true) × (b ≡ true))
and_reads true b = ((λ e. (refl, e)), (λ h. h.1))
and_reads false b = ((λ e. absurd (true≢false (sym e))), (λ h. absurd (true≢false (sym h.0))))

pub or_reads : (a b : Bool) → ((a || b) ≡ true) ↔ ((a ≡ true) ⊎ (b ≡ true))
or_reads true b = ((λ e. inl refl), (λ h. refl))
or_reads false b = ((λ e. inr e), ⊎_elim (λ e. absurd (true≢false (sym e))) (λ e. e))

pub or_false : (a b : Bool) → ((a || b) ≡ false) ↔ ((a ≡ false) × (b ≡ false))
or_false true b = ((λ e. absurd (true≢false e)), (λ h. absurd (true≢false h.0)))
or_false false b = ((λ e. (refl, e)), (λ h. h.1))

-- a test that is not passed is failed
pub fails : (b : Bool) → (b ≡ true → ⊥) → b ≡ false
fails true f = absurd (f refl)
fails false f = refl

-- two tests that pass together are equal
pub same_test : (a b : Bool) → (a ≡ true) ↔ (b ≡ true) → a ≡ b
same_test true b h = sym (h.0 refl)
same_test false true h = absurd (true≢false (sym (h.1 refl)))
same_test false false h = refl

pub le_reads : (a b : ℕ) → (leb a b ≡ true) ↔ (a ≤ b)
le_reads a b = (leb-true a b, le-leb a b)

pub lt_reads : (a b : ℕ) → (ltb a b ≡ true) ↔ (a < b)
lt_reads a b = (ltb-true a b, lt-ltb a b)

-- a choice by which of two numbers is less
pub by_less : {A : Type 0} (P : A → Type 0) (a b : ℕ) {u v : A} → (a < b → P u) → (b ≤ a → P v) → P (cond (ltb a b) u v)
by_less P a b {u} {v} h k = go (ltb a b) refl
  where
    go : (t : Bool) → ltb a b ≡ t → P (cond t u v)
    go true e = h (ltb-true a b e)
    go false e = k (ltb-false a b e)

pub eq_reads : (a b : ℕ) → (eqb a b ≡ true) ↔ (a ≡ b)
eq_reads a b = (eqb-true a b, eq-eqb a b)

pub between_reads : (low high n : ℕ) → (between low high n ≡ true) ↔ ((low ≤ n) × (n ≤ high))
between_reads low high n = (
  (λ e. let k = (and_reads (leb low n) (leb n high)).0 e in (leb-true _ _ k.0, leb-true _ _ k.1)),
  (λ h. (and_reads (leb low n) (leb n high)).1 (le-leb _ _ h.0, le-leb _ _ h.1)),
)

pub le_z_reads : (a b : ℤ) → (le_z a b ≡ true) ↔ (a ≤ℤ b)
le_z_reads a b = ((λ e. record { le = subst T (sym e) tt }), (λ h. holds (le_z a b) h.le))
  where
    holds : (t : Bool) → T t → t ≡ true
    holds true k = refl
    holds false k = absurd k

-- ---- statements that hold together
pub iff_trans : {A B C : Type 0} → A ↔ B → B ↔ C → A ↔ C
iff_trans h k = ((λ a. k.0 (h.0 a)), (λ c. h.1 (k.1 c)))

pub iff_sym : {A B : Type 0} → A ↔ B → B ↔ A
iff_sym h = (h.1, h.0)

pub iff_not : {A B : Type 0} → A ↔ B → (A → ⊥) ↔ (B → ⊥)
iff_not h = ((λ f b. f (h.1 b)), (λ f a. f (h.0 a)))

pub iff_both : {A B C D : Type 0} → A ↔ B → C ↔ D → (A × C) ↔ (B × D)
iff_both h k = ((λ t. (h.0 t.0, k.0 t.1)), (λ t. (h.1 t.0, k.1 t.1)))

pub iff_either : {A B C D : Type 0} → A ↔ B → C ↔ D → (A ⊎ C) ↔ (B ⊎ D)
iff_either h k = (⊎_elim (λ a. inl (h.0 a)) (λ c. inr (k.0 c)), ⊎_elim (λ b. inl (h.1 b)) (λ d. inr (k.1 d)))
