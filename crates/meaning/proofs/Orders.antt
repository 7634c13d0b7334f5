-- Loading orders: the number that `order_in` computes is the place where an entry stands.
use mathlib.Core.Path.{◌≡◌, refl, sym, ap, subst, ◌∙◌}
use mathlib.Core.Logic.{◌⊎◌, inl, inr, ⊎_elim, ◌↔◌}
use mathlib.Core.Bool.{Bool, true, false, cond}
use mathlib.Core.List.{List, [], ◌∷◌}
use Prim.Native.Nat.{ℕ, zero, suc, ◌+◌, ◌-◌, ◌≤◌}
use native.Mathlib.Decide.{dec_le}
use native.Mathlib.Omega.{arith}
use borrow.Author.Tests.{eqb-true, eqb-false}
use lib.Dec.{eqb}
use lib.ListN.{length, get_or, take, drop, take-append-drop}
use lib.Seq.{take-take}
use Rattle.meaning.specs.Lists.{In, listed, distinct, order_from, order_in, between}
use Rattle.meaning.specs.Feasible.{Stands, Placed}
use Rattle.meaning.proofs.Tests.{between_reads, same_test}
use Rattle.meaning.proofs.Lists.{NoRepeat, in_append, at_in, listed_reads, distinct_reads}

-- ---- places in a list with one more entry at its front
pub stands_first : (n : ℕ) (l : List ℕ) → Stands (n ∷ l) n 1
stands_first n l = record { from = omega arith; up_to = omega arith; there = refl }

pub one_back : (k : ℕ) → suc k - 1 ≡ k
one_back k = omega arith

pub stands_later : (m : ℕ) (l : List ℕ) (n k : ℕ) → Stands l n k → Stands (m ∷ l) n (suc k)
stands_later m l n zero h = absurd (omega (arith, h.from))
stands_later m l n (suc k) h = record { from = omega arith; up_to = omega (arith, h.up_to); there = rw (one_back (suc k)) (rw (one_back k) at h.there) }

-- a place in such a list is the first, or a place of the rest moved by one
pub stands_cases : (m : ℕ) (l : List ℕ) (n k : ℕ) → Stands (m ∷ l) n k → ((k ≡ 1) × (m ≡ n)) ⊎ ((j : ℕ) × (k ≡ suc j) × Stands l n j)
stands_cases m l n zero h = absurd (omega (arith, h.from))
stands_cases m l n (suc zero) h = inl (refl, h.there)
stands_cases m l n (suc (suc j)) h =
    inr (suc j, refl, record { from = omega arith; up_to = omega (arith, h.up_to); there = rw (one_back j) (rw (one_back (suc j)) at h.there) })

pub stands_in : (l : List ℕ) (n k : ℕ) → Stands l n k → In n l
stands_in l n k h = subst (λ (z : ℕ). In z l) h.there (at_in l 0 (k - 1) (omega (arith, h.from, h.up_to)))

-- ---- what `order_from` finds
-- the number `found` is the place of n where the first place is j: n stands there and not before
abbrev FirstAt : ℕ → ℕ → List ℕ → ℕ → Type 0
FirstAt j n l found = (k : ℕ) × Stands l n k × (suc found ≡ j + k) × (In n (take (k - 1) l) → ⊥)

order_cases : (j n : ℕ) (l : List ℕ) → ((In n l → ⊥) × (order_from j n l ≡ 0)) ⊎ FirstAt j n l (order_from j n l)
unfolding order_from
order_cases j n [] = inl ((λ m. m), refl)
order_cases j n (m ∷ l) = go (eqb n m) refl (order_cases (suc j) n l)
  where
    -- the entry stands further on
    further : (at : ℕ) → Stands l n at → suc (order_from (suc j) n l) ≡ suc j + at → (In n (take (at - 1) l) → ⊥) → (n ≡ m → ⊥)
        → FirstAt j n (m ∷ l) (order_from (suc j) n l)
    further zero s e f d = absurd (omega (arith, s.from))
    further (suc at) s e f d = (suc (suc at), stands_later m l n (suc at) s, omega arith, rw (one_back (suc at)) (⊎_elim d (rw (one_back at) at f)))

    go : (t : Bool) → eqb n m ≡ t → ((In n l → ⊥) × (order_from (suc j) n l ≡ 0)) ⊎ FirstAt (suc j) n l (order_from (suc j) n l)
        → ((In n (m ∷ l) → ⊥) × (cond t j (order_from (suc j) n l) ≡ 0))
        ⊎ FirstAt j n (m ∷ l) (cond t j (order_from (suc j) n l))
    go true e rec = inr (1, subst (λ (z : ℕ). Stands (m ∷ l) z 1) (sym (eqb-true n m e)) (stands_first m l), omega arith, (λ z. z))
    go false e (inl h) = inl (⊎_elim (eqb-false n m e) h.0, h.1)
    go false e (inr h) = inr (further h.0 h.1 h.2 h.3 (eqb-false n m e))

-- ---- loading orders
pub order-in : (l : List ℕ) (n : ℕ) → (1 ≤ order_in l n) ↔ In n l
order-in l n = (
  (λ h. ⊎_elim (λ k. absurd (omega (arith, h, k.1))) (λ k. stands_in l n k.0 k.1) (order_cases 1 n l)),
  (λ m. ⊎_elim (λ k. absurd (k.0 m)) (λ k. omega (arith, k.2, k.1.from)) (order_cases 1 n l)),
)

pub order_stands : (l : List ℕ) (n : ℕ) → In n l → Stands l n (order_in l n)
order_stands l n m =
    ⊎_elim (λ k. absurd (k.0 m)) (λ k. let e : k.0 ≡ order_in l n = omega (arith, k.2) in subst (Stands l n) e k.1) (order_cases 1 n l)

-- a loading order goes up to the length of its list
pub order_most : (most : ℕ) (l : List ℕ) (n : ℕ) → length l ≤ most → order_in l n ≤ most
order_most most l n few = ⊎_elim (λ k. omega (arith, k.1)) (λ k. omega (arith, k.2, k.1.up_to)) (order_cases 1 n l)

-- in a list without repeats an entry stands at one place
stands_once : (l : List ℕ) (n j k : ℕ) → NoRepeat l → Stands l n j → Stands l n k → j ≡ k
stands_once [] n j k d h h' = absurd (omega (arith, h.from, h.up_to))
stands_once (m ∷ l) n j k d h h' = go (λ i i'. stands_once l n i i' d.1) (stands_cases m l n j h) (stands_cases m l n k h')
  where
    -- the first entry stands nowhere else
    alone : (i : ℕ) → m ≡ n → Stands l n i → ⊥
    alone i e s = d.0 (subst (λ (z : ℕ). In z l) (sym e) (stands_in l n i s))

    go : ((i i' : ℕ) → Stands l n i → Stands l n i' → i ≡ i')
        → ((j ≡ 1) × (m ≡ n)) ⊎ ((i : ℕ) × (j ≡ suc i) × Stands l n i) → ((k ≡ 1) × (m ≡ n)) ⊎ ((i : ℕ) × (k ≡ suc i) × Stands l n i) → j ≡ k
    go rec (inl a) (inl b) = a.0 ∙ sym b.0
    go rec (inl a) (inr b) = absurd (alone b.0 a.1 b.2)
    go rec (inr a) (inl b) = absurd (alone a.0 b.1 a.2)
    go rec (inr a) (inr b) = a.1 ∙ ap suc (rec a.0 b.0 a.2 b.2) ∙ sym b.1

pub stands_order : (l : List ℕ) (n k : ℕ) → distinct l ≡ true → Stands l n k → order_in l n ≡ k
stands_order l n k d h = stands_once l n (order_in l n) k ((distinct_reads l).0 d) (order_stands l n (stands_in l n k h)) h

-- in a list without repeats the loading orders of two entries compare as their places do, by any test
pub placed_reads : (test : ℕ → ℕ → Bool) (R : ℕ → ℕ → Type 0) → ((j k : ℕ) → (test j k ≡ true) ↔ R j k)
    → (l : List ℕ) → distinct l ≡ true → (a b : ℕ) → In a l → In b l → (test (order_in l a) (order_in l b) ≡ true) ↔ Placed R l a b
placed_reads test R reads l d a b m n =
    let j = order_in l a in
    let k = order_in l b in (
      (λ e. record { first = j; second = k; of_first = order_stands l a m; of_second = order_stands l b n; order = (reads j k).0 e }),
      (λ h. (reads j k).1 (rw (stands_order l a h.first d h.of_first, stands_order l b h.second d h.of_second) h.order)),
    )

-- ---- a list for each entry of another list, and none for an entry that is not listed
pub list_at : (lists : List (List ℕ)) (k : ℕ) → 1 ≤ k → get_or ([] ∷ lists) k [] ≡ get_or lists (k - 1) []
list_at lists zero h = absurd (omega arith)
list_at lists (suc k) h = ap (λ (j : ℕ). get_or lists j []) (sym (one_back k))

-- ---- the first k entries
in_take : (l : List ℕ) (n k j : ℕ) → Stands l n j → j ≤ k → In n (take k l)
in_take [] n k j h le = absurd (omega (arith, h.from, h.up_to))
in_take (m ∷ l) n zero j h le = absurd (omega (arith, h.from))
in_take (m ∷ l) n (suc k) j h le = ⊎_elim (λ w. inl (sym w.1)) (λ w. inr (in_take l n k w.0 w.2 (omega (arith, w.1)))) (stands_cases m l n j h)

take_in : (l : List ℕ) (n k : ℕ) → In n (take k l) → In n l
take_in l n k m = rw (take-append-drop k l) at ((in_append n (take k l) (drop k l)).1 (inl m))

-- the entries of the first k places, where k goes up
take_more : (l : List ℕ) (n j k : ℕ) → j ≤ k → In n (take j l) → In n (take k l)
take_more l n j k h m = take_in (take k l) n j (rw (take-take j k l h) m)

-- an entry's order is one of 1 to k exactly when it is among the first k
pub order_take : (l : List ℕ) (n k : ℕ) → between 1 k (order_in l n) ≡ listed n (take k l)
order_take l n k =
    same_test (between 1 k (order_in l n)) (listed n (take k l)) (
      (λ e. let h = (between_reads 1 k (order_in l n)).0 e in (listed_reads n (take k l)).1 (in_take l n k (order_in l n) (order_stands l n ((order-in l n).0 h.0)) h.1)),
      (λ e. let m = (listed_reads n (take k l)).0 e in (between_reads 1 k (order_in l n)).1 ((order-in l n).1 (take_in l n k m), up_to m)),
    )
  where
    below : In n (take k l) → ((j : ℕ) × Stands l n j × (suc (order_in l n) ≡ 1 + j) × (In n (take (j - 1) l) → ⊥)) → Dec (order_in l n ≤ k) → order_in l n ≤ k
    below m w (yes h) = h
    below m w (no h) = absurd (w.3 (take_more l n k (w.0 - 1) (omega (arith, w.2, h)) m))

    up_to : In n (take k l) → order_in l n ≤ k
    up_to m = ⊎_elim (λ w. absurd (w.0 (take_in l n k m))) (λ w. below m w (dec_le (order_in l n) k)) (order_cases 1 n l)
