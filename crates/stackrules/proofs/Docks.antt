-- Rule 16 by the number of a stack's plant docks and the range of their loading orders.
use mathlib.Core.Path.{◌≡◌, refl, ◌∙◌}
use mathlib.Core.Logic.{◌⊎◌, inl, inr, ⊎_elim}
use mathlib.Core.Bool.{true, ◌&&◌, ◌||◌}
use mathlib.Core.List.{List, [], ◌∷◌, map, map-map}
use Prim.Native.Nat.{ℕ, suc, ◌+◌, ◌≤◌, min, max}
use native.Mathlib.Decide.{dec_le}
use native.Mathlib.Omega.{arith}
use borrow.Author.Tests.{eqb-true, eq-eqb, ne_eqb}
use lib.Dec.{leb, eqb}
use lib.ListN.{length}
use Rattle.meaning.specs.Lists.{dedup, order_in, Every}
use Rattle.meaning.specs.Model.{Instance, Stack, item, truck_of, truck, IG, TF}
use Rattle.meaning.specs.Measures.{plant_docks_of, plant_dock_order}
use Rattle.meaning.specs.Rules.{consecutive, plant_dock_count, plant_docks_allowed}
use Rattle.meaning.proofs.Tests.{same_test, or_reads, eq_reads}
use Rattle.meaning.proofs.Lists.{in_dedup}
use Rattle.meaning.proofs.Permute.{Same, same_every}
use Rattle.views.specs.Views.{range_of, plant_dock_orders}
use Rattle.views.proofs.OrderRanges.{lower_one, higher_one, lowest_same, highest_same}

-- ---- orders are consecutive exactly when there are two and their range ends one further on
one_apart : (a b low high : ℕ) → low ≡ min a b → high ≡ max a b → (eqb (suc a) b || eqb (suc b) a) ≡ eqb (low + 1) high
one_apart a b low high l h =
    same_test (eqb (suc a) b || eqb (suc b) a) (eqb (low + 1) high) (
      (λ e. eq-eqb (low + 1) high (⊎_elim (λ q. up (eqb-true (suc a) b q)) (λ q. down (eqb-true (suc b) a q)) ((or_reads (eqb (suc a) b) (eqb (suc b) a)).0 e))),
      (λ e. (or_reads (eqb (suc a) b) (eqb (suc b) a)).1 (one (eqb-true (low + 1) high e) (dec_le a b))),
    )
  where
    up : suc a ≡ b → low + 1 ≡ high
    up q = omega arith

    down : suc b ≡ a → low + 1 ≡ high
    down q = omega arith

    one : low + 1 ≡ high → Dec (a ≤ b) → (eqb (suc a) b ≡ true) ⊎ (eqb (suc b) a ≡ true)
    one e (yes q) = inl (eq-eqb (suc a) b (omega arith))
    one e (no q) = inr (eq-eqb (suc b) a (omega arith))

orders_ranged : (order : ℕ → ℕ) (ds : List ℕ) → Every (λ d. order d ≤ 8) ds
    → consecutive (map order ds) ≡ (eqb (length ds) 2 && eqb ((range_of (map order ds)).lowest + 1) (range_of (map order ds)).highest)
unfolding consecutive range_of
orders_ranged order [] h = refl
orders_ranged order (c ∷ []) h = refl
orders_ranged order (c ∷ d ∷ []) h =
    let a = order c in
    let b = order d in
    rw (lower_one b 8, higher_one b 0, lower_one a (min b 8), higher_one a (max b 0))
    (one_apart a b (min a (min b 8)) (max a (max b 0)) (omega (arith, h.0, h.1.0)) (omega arith))
orders_ranged order (c ∷ d ∷ e ∷ ds) h = rw (ne_eqb (suc (suc (suc (length ds)))) 2 (λ q. omega arith)) refl

-- ---- the loading orders of docks, each dock once or item by item
docks_ranged : (order : ℕ → ℕ) (ds : List ℕ) → Every (λ d. order d ≤ 8) ds
    → consecutive (map order (dedup eqb ds))
    ≡ (eqb (length (dedup eqb ds)) 2 && eqb ((range_of (map order ds)).lowest + 1) (range_of (map order ds)).highest)
docks_ranged order ds few =
    let once = dedup eqb ds in
    let s : Same once ds = ((λ d. (in_dedup eqb eq_reads ds d).0), (λ d. (in_dedup eqb eq_reads ds d).1)) in
    orders_ranged order once (same_every (λ d. order d ≤ 8) ds once (s.1, s.0) few)
    ∙ rw (lowest_same order once ds s, highest_same order once ds s) refl

orders_few : (order dock : ℕ → ℕ) → ((n : ℕ) → order (dock n) ≤ 8) → (l : List ℕ) → Every (λ d. order d ≤ 8) (map dock l)
orders_few order dock h [] = tt
orders_few order dock h (n ∷ l) = (h n, orders_few order dock h l)

-- ---- the rule by its number of docks, the truck's flag and the range
pub docks_tested : (i : Instance) (p : List Stack) (s : Stack) (count flag low high : ℕ) → ((n : ℕ) → plant_dock_order i s (item i n) ≤ 8)
    → count ≡ plant_dock_count i s → flag ≡ TF (truck_of i s) → low ≡ (range_of (plant_dock_orders i (truck s) s.load)).lowest → high ≡ (range_of (plant_dock_orders i (truck s) s.load)).highest
    → (leb count 1 || (eqb flag 1 && (eqb count 2 && eqb (low + 1) high))) ≡ plant_docks_allowed i p s
unfolding plant_docks_of plant_dock_orders
docks_tested i p s count flag low high few ec ef el eh =
    let order = order_in (truck_of i s).plant_docks in
    let dock : ℕ → ℕ = λ n. IG (item i n) in
    rw (ec, ef, el, eh, docks_ranged order (map dock s.load) (orders_few order dock few s.load), map-map order dock s.load) refl
