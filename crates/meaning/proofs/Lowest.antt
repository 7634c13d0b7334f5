-- The lowest place of a list: a listed place with none before it, whatever the order of the list.
use mathlib.Core.Path.{◌≡◌, refl, sym, ap, subst, ◌∙◌}
use mathlib.Core.Logic.{◌⊎◌, inl, inr, ⊎_elim, ◌↔◌}
use mathlib.Core.Bool.{Bool, true, false, cond, ◌&&◌}
use mathlib.Core.Option.{Option, none, some}
use mathlib.Core.List.{List, [], ◌∷◌}
use Prim.Native.Nat.{ℕ, ◌<◌}
use native.Mathlib.Decide.{dec_lt}
use native.Mathlib.Omega.{arith}
use lib.Dec.{ltb, eqb}
use Rattle.meaning.specs.declared.Place.{Place}
use Rattle.meaning.specs.Lists.{In}
use Rattle.meaning.specs.Places.{below_or, lower, lower_of, lowest}
use Rattle.meaning.specs.Claims.{Before, IsLowest, LowestPlace}
use Rattle.meaning.proofs.Tests.{true≢false, or_reads, and_reads, lt_reads, eq_reads, iff_trans, iff_both, iff_either}
use Rattle.meaning.proofs.Permute.{Same}

-- ---- a number below another, or the same number and N: of this Before is made, three times over
abbrev BelowOr : ℕ → ℕ → Type 0 → Type 0
BelowOr a b N = (a < b) ⊎ ((a ≡ b) × N)

below_or_reads : (a b : ℕ) (next : Bool) (N : Type 0) → (next ≡ true) ↔ N → (below_or a b next ≡ true) ↔ BelowOr a b N
unfolding below_or
below_or_reads a b next N h =
    iff_trans (or_reads (ltb a b) (eqb a b && next)) (iff_either (lt_reads a b) (iff_trans (and_reads (eqb a b) next) (iff_both (eq_reads a b) h)))

-- the last number decides alone
below_reads : (a b : ℕ) → (below_or a b false ≡ true) ↔ (a < b)
below_reads a b =
    iff_trans (below_or_reads a b false ⊥ ((λ e. true≢false (sym e)), (λ z. absurd z))) (⊎_elim (λ h. h) (λ h. absurd h.1), (λ h. inl h))

-- it is an order: nothing is before itself, it is transitive, and of two one is before the other or they are equal
below_or_irrefl : (a : ℕ) (N : Type 0) → (N → ⊥) → BelowOr a a N → ⊥
below_or_irrefl a N f = ⊎_elim (λ h. omega arith) (λ h. f h.1)

below_or_trans : (a b c : ℕ) (N M L : Type 0) → (N → M → L) → BelowOr a b N → BelowOr b c M → BelowOr a c L
below_or_trans a b c N M L f (inl h) (inl k) = inl (omega arith)
below_or_trans a b c N M L f (inl h) (inr k) = inl (omega (arith, k.0))
below_or_trans a b c N M L f (inr h) (inl k) = inl (omega (arith, h.0))
below_or_trans a b c N M L f (inr h) (inr k) = inr (h.0 ∙ k.0, f h.1 k.1)

compare : (a b : ℕ) → (a < b) ⊎ ((a ≡ b) ⊎ (b < a))
compare a b = go (dec_lt a b) (dec_lt b a)
  where
    go : Dec (a < b) → Dec (b < a) → (a < b) ⊎ ((a ≡ b) ⊎ (b < a))
    go (yes h) k = inl h
    go (no h) (yes k) = inr (inr k)
    go (no h) (no k) = inr (inl (omega arith))

-- E says that what comes next is equal
below_or_compare : (a b : ℕ) (N E M : Type 0) → N ⊎ (E ⊎ M) → BelowOr a b N ⊎ (((a ≡ b) × E) ⊎ BelowOr b a M)
below_or_compare a b N E M h =
    ⊎_elim (λ k. inl (inl k))
    (⊎_elim (λ e. ⊎_elim (λ n. inl (inr (e, n))) (⊎_elim (λ d. inr (inl (e, d))) (λ m. inr (inr (inr (sym e, m))))) h) (λ k. inr (inr (inl k)))) (compare a b)

-- ---- the order of places
pub before_reads : (p q : Place) → (lower p q ≡ true) ↔ Before p q
unfolding lower
before_reads p q = below_or_reads _ _ _ _ (below_or_reads _ _ _ _ (below_reads p.third q.third))

before_irrefl : (p : Place) → Before p p → ⊥
before_irrefl p = below_or_irrefl _ _ (below_or_irrefl _ _ (λ h. omega arith))

before_trans : (p q r : Place) → Before p q → Before q r → Before p r
before_trans p q r = below_or_trans _ _ _ _ _ _ (below_or_trans _ _ _ _ _ _ (λ h k. omega arith))

before_compare : (p q : Place) → Before p q ⊎ ((p ≡ q) ⊎ Before q p)
before_compare p q =
    ⊎_elim (λ h. inl h)
    (⊎_elim (λ e. inr (inl (λ j. record { first = e.0 j; second = e.1.0 j; third = e.1.1 j }))) (λ h. inr (inr h)))
    (below_or_compare _ _ _ _ _ (below_or_compare _ _ _ _ _ (compare p.third q.third)))

-- ---- `lowest` is the lowest
pub lowest_is : LowestPlace
unfolding lowest lower_of
lowest_is [] = refl
lowest_is (p ∷ ps) = go (lowest ps) (lowest_is ps)
  where
    itself : (r q : Place) → r ≡ p → Before r q → Before p q
    itself r q e h = subst (λ (z : Place). Before z q) e h

    choose : (q : Place) (t : Bool) → lower q p ≡ t → IsLowest ps (some q) → IsLowest (p ∷ ps) (some (cond t q p))
    choose q true e h =
        let b : Before q p = (before_reads q p).0 e in
        (inr h.0, λ r. ⊎_elim (λ k c. before_irrefl p (before_trans p q p (itself r q k c) b)) (h.1 r))
    choose q false e h = (
      inl refl,
      λ r. ⊎_elim (λ k c. before_irrefl p (itself r p k c)) (λ m c.
          let over : Before q p → ⊥ = λ b. true≢false (sym ((before_reads q p).1 b) ∙ e) in
          ⊎_elim (λ b. h.1 r m b) (⊎_elim (λ k. over (subst (λ (z : Place). Before z p) k c)) (λ b. over (before_trans q r p b c))) (before_compare r q)),
    )

    go : (o : Option Place) → IsLowest ps o → IsLowest (p ∷ ps) (lower_of p o)
    go none h = (inl refl, λ r. ⊎_elim (λ k c. before_irrefl p (itself r p k c)) (λ m c. subst (In r) h m))
    go (some q) h = choose q (lower q p) refl h

-- of the same places one place is the lowest
pub lowest_one : (ps qs : List Place) (o o' : Option Place) → Same ps qs → IsLowest ps o → IsLowest qs o' → o ≡ o'
lowest_one ps qs none none s h k = refl
lowest_one ps qs none (some q) s h k = absurd (subst (In q) h (s.1 q k.0))
lowest_one ps qs (some p) none s h k = absurd (subst (In p) k (s.0 p h.0))
lowest_one ps qs (some p) (some q) s h k =
    ⊎_elim (λ b. absurd (k.1 p (s.0 p h.0) b)) (⊎_elim (λ e. ap (λ (z : Place). some z) e) (λ b. absurd (h.1 q (s.1 q k.0) b))) (before_compare p q)

pub lowest_same : (ps qs : List Place) → Same ps qs → lowest ps ≡ lowest qs
lowest_same ps qs s = lowest_one ps qs (lowest ps) (lowest qs) s (lowest_is ps) (lowest_is qs)
