-- Rule 25 says what the picture says of the loading order P4, for stacks whose suppliers and docks are listed.
use mathlib.Core.Path.{◌≡◌, refl, sym, ap, subst, ◌∙◌}
use mathlib.Core.Logic.{◌⊎◌, inl, inr, ⊎_elim, ◌↔◌}
use mathlib.Core.Bool.{Bool, true, false, not, ◌&&◌, ◌||◌}
use mathlib.Core.List.{List, [], ◌∷◌}
use Prim.Native.Nat.{ℕ, zero, suc, ◌-◌, ◌≤◌, ◌<◌}
use native.Mathlib.Decide.{ℕ_discrete}
use native.Mathlib.Omega.{arith}
use borrow.Author.Tests.{leb-true, le-leb, eqb-true, eq-eqb}
use lib.Dec.{leb, ltb, eqb}
use lib.ListN.{get_or}
use Rattle.meaning.specs.Lists.{In, Every, distinct, order_in}
use Rattle.meaning.specs.Model.{Instance, Truck, Stack, item, truck_numbered, truck_of, number, x, IG, IU, IK}
use Rattle.meaning.specs.Measures.{bottom, docks_of, supplier_order, supplier_dock_order, plant_dock_order}
use Rattle.meaning.specs.Rules.{pair_places, docks_not_after, loads_before, in_loading_order}
use Rattle.meaning.specs.Feasible.{SameTruck, Stands, Earlier, NotLater, ItemFits, MustPrecede, by_supplier, by_dock, by_plant_dock}
use Rattle.meaning.proofs.Tests.{true≢false, and_reads, or_reads, not_reads, le_reads, lt_reads}
use Rattle.meaning.proofs.Lists.{all_reads}
use Rattle.meaning.proofs.Orders.{order_stands, stands_order, placed_reads, list_at}
use Rattle.meaning.proofs.RuleKinds.{pairs_kept}
use Rattle.meaning.proofs.WellFormed.{WellFormedStack, WellFormed}

-- ---- the docks of a supplier
-- its list among the docks is the one at its place
docks_at : (t : Truck) (supplier k : ℕ) → distinct t.suppliers ≡ true → Stands t.suppliers supplier k → docks_of t supplier ≡ get_or t.docks (k - 1) []
docks_at t supplier k d h = ap (λ (j : ℕ). get_or ([] ∷ t.docks) j []) (stands_order t.suppliers supplier k d h) ∙ list_at t.docks k h.from

list_distinct : (lists : List (List ℕ)) (k : ℕ) → Every (λ (d : List ℕ). distinct d ≡ true) lists → distinct (get_or lists k []) ≡ true
unfolding distinct
list_distinct [] k h = refl
list_distinct (d ∷ lists) zero h = h.0
list_distinct (d ∷ lists) (suc k) h = list_distinct lists k h.1

-- a stack whose supplier, supplier dock and plant docks are listed on a truck
record Listed (i : Instance) (t : Truck) (s : Stack) : Type 0 where
  supplier : In (IU (bottom i s)) t.suppliers
  dock : In (IK (bottom i s)) (docks_of t (IU (bottom i s)))
  plant_dock : (n : ℕ) → In n s.load → In (IG (item i n)) t.plant_docks

fits_listed : (i : Instance) (s : Stack) → WellFormedStack i s → ((n : ℕ) → In n s.load → ItemFits i s n) → Listed i (truck_of i s) s
fits_listed i s formed fits =
    let b = fits (get_or s.load 0 0) formed.some in
    record {
      supplier = b.supplier;
      dock = rw (docks_at (truck_of i s) (IU (bottom i s)) b.k formed.suppliers b.at_supplier) b.supplier_dock;
      plant_dock = λ n m. (fits n m).plant_dock;
    }

-- every plant dock order of s is at most every one of r, on a truck t
up_to_lem : (i : Instance) (t : Truck) (s r : Stack) → distinct t.plant_docks ≡ true → truck_of i s ≡ t → truck_of i r ≡ t → Listed i t s → Listed i t r
    → (docks_not_after i s r ≡ true) ↔ ((n m : ℕ) → In n s.load → In m r.load → NotLater t.plant_docks (IG (item i n)) (IG (item i m)))
unfolding docks_not_after
up_to_lem i t s r d es er a b = (
  (λ e n m k l. (order n m k l).0 ((all_reads _ r.load).0 ((all_reads _ s.load).0 e n k) m l)),
  (λ f. (all_reads _ s.load).1 (λ n k. (all_reads _ r.load).1 (λ m l. (order n m k l).1 (f n m k l)))),
)
  where
    order : (n m : ℕ) → In n s.load → In m r.load
        → (leb (plant_dock_order i s (item i n)) (plant_dock_order i r (item i m)) ≡ true) ↔ NotLater t.plant_docks (IG (item i n)) (IG (item i m))
    order n m k l = rw (es, er) (placed_reads leb ◌≤◌ le_reads t.plant_docks d (IG (item i n)) (IG (item i m)) (a.plant_dock n k) (b.plant_dock m l))

-- ---- P4 for stacks s and r of a truck t
module _ (i : Instance) (s r : Stack) (formed : WellFormedStack i s) (same : truck_of i r ≡ truck_of i s) (a : Listed i (truck_of i s) s) (b : Listed i (truck_of i s) r) where
  abbrev t : Truck
  t = truck_of i s

  abbrev smaller_supplier : Bool
  smaller_supplier = ltb (supplier_order i s) (supplier_order i r)

  abbrev same_supplier : Bool
  same_supplier = eqb (IU (bottom i s)) (IU (bottom i r))

  abbrev same_dock : Bool
  same_dock = eqb (IK (bottom i s)) (IK (bottom i r))

  abbrev smaller_dock : Bool
  smaller_dock = ltb (supplier_dock_order i s (bottom i s)) (supplier_dock_order i r (bottom i r))

  -- (1)
  by_supplier_lem : (smaller_supplier ≡ true) ↔ Earlier t.suppliers (IU (bottom i s)) (IU (bottom i r))
  by_supplier_lem = rw same (placed_reads ltb ◌<◌ lt_reads t.suppliers formed.suppliers (IU (bottom i s)) (IU (bottom i r)) a.supplier b.supplier)

  docks_distinct : (k : ℕ) → distinct (get_or ([] ∷ t.docks) k []) ≡ true
  unfolding distinct
  docks_distinct k = list_distinct ([] ∷ t.docks) k (refl, formed.docks)

  -- (2), for the docks of the one supplier
  by_dock_lem : IU (bottom i s) ≡ IU (bottom i r) → (smaller_dock ≡ true) ↔ Earlier (docks_of t (IU (bottom i s))) (IK (bottom i s)) (IK (bottom i r))
  by_dock_lem e =
      let sameDocks : docks_of (truck_of i r) (IU (bottom i r)) ≡ docks_of t (IU (bottom i s)) = ap (λ (w : Truck). docks_of w (IU (bottom i r))) same ∙ ap (docks_of t) (sym e) in
      let there : In (IK (bottom i r)) (docks_of t (IU (bottom i s))) = subst (λ (u : ℕ). In (IK (bottom i r)) (docks_of t u)) (sym e) b.dock in
      let d : distinct (docks_of t (IU (bottom i s))) ≡ true = docks_distinct (order_in t.suppliers (IU (bottom i s))) in
      rw sameDocks (placed_reads ltb ◌<◌ lt_reads (docks_of t (IU (bottom i s))) d (IK (bottom i s)) (IK (bottom i r)) a.dock there)

  -- (3), and its reverse
  up_to : (docks_not_after i s r ≡ true) ↔ ((n m : ℕ) → In n s.load → In m r.load → NotLater t.plant_docks (IG (item i n)) (IG (item i m)))
  up_to = up_to_lem i t s r formed.plant_docks refl same a b

  down_to : (docks_not_after i r s ≡ true) ↔ ((n m : ℕ) → In n s.load → In m r.load → NotLater t.plant_docks (IG (item i m)) (IG (item i n)))
  down_to = let h = up_to_lem i t r s formed.plant_docks same refl b a in ((λ e n m k l. h.0 e m n l k), (λ f. h.1 (λ m n l k. f n m k l)))

  -- the cases as the test has them
  abbrev case_dock : Bool
  case_dock = same_supplier && smaller_dock

  abbrev case_plant_dock : Bool
  case_plant_dock = same_supplier && same_dock && docks_not_after i s r && not (docks_not_after i r s)

  from_dock : case_dock ≡ true → MustPrecede i s r
  from_dock e =
      let h = (and_reads same_supplier smaller_dock).0 e in
      let u : IU (bottom i s) ≡ IU (bottom i r) = eqb-true _ _ h.0 in
      let k = order_in t.suppliers (IU (bottom i s)) in
      let at : Stands t.suppliers (IU (bottom i s)) k = order_stands t.suppliers (IU (bottom i s)) a.supplier in
      by_dock k u at (rw (← docks_at t (IU (bottom i s)) k formed.suppliers at) ((by_dock_lem u).0 h.1))

  from_plant_dock : case_plant_dock ≡ true → MustPrecede i s r
  from_plant_dock e =
      let h = (and_reads (same_supplier && same_dock && docks_not_after i s r) (not (docks_not_after i r s))).0 e in
      let k = (and_reads (same_supplier && same_dock) (docks_not_after i s r)).0 h.0 in
      let l = (and_reads same_supplier same_dock).0 k.0 in
      by_plant_dock (eqb-true _ _ l.0) (eqb-true _ _ l.1) (up_to.0 k.1) (λ f. (not_reads (docks_not_after i r s)).0 h.1 (down_to.1 f))

  -- any case is enough for the test
  passes : ((smaller_supplier ≡ true) ⊎ (case_dock ≡ true)) ⊎ (case_plant_dock ≡ true) → loads_before i s r ≡ true
  unfolding loads_before
  passes h = (or_reads (smaller_supplier || case_dock) case_plant_dock).1 (⊎_elim (λ k. inl ((or_reads smaller_supplier case_dock).1 k)) inr h)

  to_precedes : MustPrecede i s r → loads_before i s r ≡ true
  to_precedes (by_supplier e) = passes (inl (inl (by_supplier_lem.1 e)))
  to_precedes (by_dock k u at e) =
      passes (inl (inr ((and_reads same_supplier smaller_dock).1 (eq-eqb _ _ u, (by_dock_lem u).1 (rw (docks_at t (IU (bottom i s)) k formed.suppliers at) e)))))
  to_precedes (by_plant_dock u k f g) =
      passes (inr ((and_reads (same_supplier && same_dock && docks_not_after i s r) (not (docks_not_after i r s))).1 (
        (and_reads (same_supplier && same_dock) (docks_not_after i s r)).1 ((and_reads same_supplier same_dock).1 (eq-eqb _ _ u, eq-eqb _ _ k), up_to.1 f),
        (not_reads (docks_not_after i r s)).1 (λ e. g (down_to.0 e)),
      )))

  precedes_reads : (loads_before i s r ≡ true) ↔ MustPrecede i s r
  unfolding loads_before
  precedes_reads = (
    (λ e.
        ⊎_elim (λ h. ⊎_elim (λ k. by_supplier (by_supplier_lem.0 k)) from_dock ((or_reads smaller_supplier case_dock).0 h)) from_plant_dock
        ((or_reads (smaller_supplier || case_dock) case_plant_dock).0 e)),
    to_precedes,
  )

-- ---- 25 order
order_reads : (b c : Bool) → ((not b || c) ≡ true) ↔ (b ≡ true → c ≡ true)
order_reads true c = ((λ e k. e), (λ f. f refl))
order_reads false c = ((λ e k. absurd (true≢false (sym k))), (λ f. refl))

module _ (i : Instance) (p : List Stack) (formed : WellFormed i p) (fits : (s : Stack) → In s p → (n : ℕ) → In n s.load → ItemFits i s n) where
  -- P4 for two stacks of one used truck
  must_precede : (s r : Stack) → In s p → In r p → SameTruck s r → (loads_before i s r ≡ true) ↔ MustPrecede i s r
  must_precede s r m n o =
      let same : truck_of i r ≡ truck_of i s = ap (truck_numbered i) (sym o.truck) in
      let b : Listed i (truck_of i s) r = subst (λ (w : Truck). Listed i w r) same (fits_listed i r (formed.stacks r n) (fits r n)) in
      precedes_reads i s r (formed.stacks s m) same (fits_listed i s (formed.stacks s m) (fits s m)) b

  -- a stack is in order with itself
  in_order : (s r : Stack) → In s p → In r p → ((number s ≡ number r → ⊥) → x s ≤ x r) → x s ≤ x r
  in_order s r m n f = go (ℕ_discrete (number s) (number r))
    where
      go : Dec (number s ≡ number r) → x s ≤ x r
      go (yes e) = let z : x s ≡ x r = ap x (formed.known s r m n e) in omega (arith, z)
      go (no d) = f d

  pub order_exactly : (pair_places in_loading_order i p ≡ []) ↔ ((s r : Stack) → In s p → In r p → SameTruck s r → MustPrecede i s r → x s ≤ x r)
  order_exactly = (
    (λ e s r m n o k.
        in_order s r m n (λ d.
        leb-true _ _ ((order_reads (loads_before i s r) (leb (x s) (x r))).0 ((pairs_kept i p in_loading_order).0 e s r m n o d) ((must_precede s r m n o).1 k)))),
    (λ f. (pairs_kept i p in_loading_order).1 (λ s r m n o d.
        (order_reads (loads_before i s r) (leb (x s) (x r))).1 (λ e. le-leb _ _ (f s r m n o ((must_precede s r m n o).0 e))))),
  )
