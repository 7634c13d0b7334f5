-- Rules 9 to 14, the item rules: they list no place exactly when the picture's words about items hold. 9 stands apart.
use mathlib.Core.Path.{◌≡◌, refl, sym, ap, subst, ◌∙◌}
use mathlib.Core.Logic.{inl, ⊎_elim, ◌↔◌}
use mathlib.Core.Bool.{Bool, true, false, cond, not}
use mathlib.Core.List.{List, [], ◌∷◌, ◌++◌, flat_map}
use Prim.Native.Nat.{ℕ, suc, ◌+◌, ◌-◌, ◌≤◌}
use native.Mathlib.Omega.{arith}
use borrow.Author.Tests.{eqb-true, eqb-false, eq-eqb}
use lib.Dec.{leb, eqb}
use lib.ListN.{length, get_or, length-append}
use Rattle.meaning.specs.declared.Place.{Place}
use Rattle.meaning.specs.Lists.{In, Every, filter, sum, only_if, up_from, order_in}
use Rattle.meaning.specs.Places.{place}
use Rattle.meaning.specs.Model.{Instance, Truck, Stack, Item, item, truck_of, IR, IU, IK, IG}
use Rattle.meaning.specs.Measures.{docks_of, supplier_dock_order, plant_dock_order}
use Rattle.meaning.specs.Rules.{times_loaded, not_once, item_rules, plant_matches, product_carried, supplier_visited, arrives_in_window, docks_served}
use Rattle.meaning.specs.Feasible.{Stands, Once, EachOnce, ItemFits}
use Rattle.meaning.specs.Claims.{KeptBy}
use Rattle.meaning.proofs.Tests.{and_reads, le_reads, between_reads, iff_trans, iff_both}
use Rattle.meaning.proofs.Lists.{◌&◌, in_filter, filter_append, in_up_from, flat_map_none, unless_none, listed_reads}
use Rattle.meaning.proofs.Orders.{stands_first, stands_later, stands_cases, stands_in, order-in, order_stands, stands_order, list_at}
use Rattle.meaning.proofs.RuleKinds.{kept_rule, items_kept}
use Rattle.meaning.proofs.WellFormed.{WellFormed}

-- ---- how often a number stands in a list
abbrev times : ℕ → List ℕ → ℕ
times n l = length (filter (eqb n) l)

-- two lists joined: their counts add up
times_append : (n : ℕ) (l l' : List ℕ) → times n (l ++ l') ≡ times n l + times n l'
times_append n l l' = ap length (filter_append (eqb n) l l') ∙ length-append (filter (eqb n) l) (filter (eqb n) l')

-- the sum over the stacks is the count in all their loads together
times_loaded_lem : (n : ℕ) (p : List Stack) → times_loaded p n ≡ times n (flat_map (λ (s : Stack). s.load) p)
unfolding times_loaded sum flat_map filter
times_loaded_lem n [] = refl
times_loaded_lem n (s ∷ p) = ap (λ (k : ℕ). times n s.load + k) (times_loaded_lem n p) ∙ sym (times_append n s.load (flat_map (λ (s : Stack). s.load) p))

-- not counted at all, it is not there
times_none : (n : ℕ) (l : List ℕ) → (times n l ≡ 0) ↔ (In n l → ⊥)
times_none n l = (
  (λ e m. empty (filter (eqb n) l) e ((in_filter (eqb n) l n).1 (m, eq-eqb n n refl))),
  (λ f. none (filter (eqb n) l) (λ a m. let h = (in_filter (eqb n) l a).0 m in f (subst (λ (z : ℕ). In z l) (sym (eqb-true n a h.1)) h.0))),
)
  where
    empty : (r : List ℕ) → length r ≡ 0 → In n r → ⊥
    empty [] e m = m
    empty (a ∷ r) e m = omega arith

    none : (r : List ℕ) → ((a : ℕ) → In a r → ⊥) → length r ≡ 0
    none [] f = refl
    none (a ∷ r) f = absurd (f a (inl refl))

-- counted once is standing at one place
counted_once : (n : ℕ) (l : List ℕ) → (times n l ≡ 1) ↔ Once n l
unfolding filter
counted_once n [] = ((λ e. absurd (omega arith)), (λ h. absurd (omega (arith, h.there.from, h.there.up_to))))
counted_once n (m ∷ l) = go (eqb n m) refl (counted_once n l)
  where
    -- the first entry is n: the rest has it nowhere
    alone : n ≡ m → (times n l ≡ 0) ↔ Once n (m ∷ l)
    alone e = (
      (λ z. record {
        at = 1;
        there = first;
        only = λ k h. ⊎_elim (λ w. w.0) (λ w. absurd ((times_none n l).0 z (stands_in l n w.0 w.2))) (stands_cases m l n k h);
      }),
      (λ h. (times_none n l).1 (λ i.
          let j = order_stands l n i in
          let a = h.only 1 first in
          let b = h.only (suc (order_in l n)) (stands_later m l n (order_in l n) j) in
          omega (arith, a, b, j.from))),
    )
      where
        first : Stands (m ∷ l) n 1
        first = subst (λ (z : ℕ). Stands (m ∷ l) z 1) (sym e) (stands_first m l)

    -- it is another number: every place is moved by one
    moved : (n ≡ m → ⊥) → Once n l ↔ Once n (m ∷ l)
    moved d = (
      (λ h. record {
        at = suc h.at;
        there = stands_later m l n h.at h.there;
        only = λ k s. ⊎_elim (λ w. absurd (d (sym w.1))) (λ w. w.1 ∙ ap suc (h.only w.0 w.2)) (stands_cases m l n k s);
      }),
      (λ h. ⊎_elim (λ w. absurd (d (sym w.1))) (λ w. record {
        at = w.0;
        there = w.2;
        only = λ k s. let q = h.only (suc k) (stands_later m l n k s) in omega (arith, q, w.1);
      }) (stands_cases m l n h.at h.there)),
    )

    go : (t : Bool) → eqb n m ≡ t → (times n l ≡ 1) ↔ Once n l → (length (cond t (m ∷ filter (eqb n) l) (filter (eqb n) l)) ≡ 1) ↔ Once n (m ∷ l)
    go true e rec = let h = alone (eqb-true n m e) in ((λ q. h.0 (omega (arith, q))), (λ o. ap suc (h.1 o)))
    go false e rec = iff_trans rec (moved (eqb-false n m e))

-- no place is listed where every number passes its test
none_fails : (test : ℕ → Bool) (at : ℕ → Place) (l : List ℕ) → (flat_map (λ n. only_if (not (test n)) (at n)) l ≡ []) ↔ ((n : ℕ) → In n l → test n ≡ true)
none_fails test at l = (
  (λ e n m. (unless_none (test n) (at n)).0 ((flat_map_none (λ k. only_if (not (test k)) (at k)) l).0 e n m)),
  (λ f. (flat_map_none (λ k. only_if (not (test k)) (at k)) l).1 (λ n m. (unless_none (test n) (at n)).1 (f n m))),
)

-- 9, by the count
each_once : (i : Instance) (p : List Stack) → (not_once i p ≡ []) ↔ ((n : ℕ) → 1 ≤ n → n ≤ length i.items → times_loaded p n ≡ 1)
unfolding not_once
each_once i p = (
  (λ e n from up_to. eqb-true (times_loaded p n) 1 (none.0 e n ((in_up_from 1 (length i.items) n).1 (from, omega arith)))),
  (λ f. none.1 (λ n m. let r = (in_up_from 1 (length i.items) n).0 m in eq-eqb (times_loaded p n) 1 (f n r.0 (omega (arith, r.1))))),
)
  where
    none : (not_once i p ≡ []) ↔ ((n : ℕ) → In n (up_from 1 (length i.items)) → eqb (times_loaded p n) 1 ≡ true)
    none = none_fails (λ n. eqb (times_loaded p n) 1) (λ n. place n (times_loaded p n) 0) (up_from 1 (length i.items))

-- 9: each item of the instance stands once among the load entries of the plan
pub once_exactly : (i : Instance) (p : List Stack) → (not_once i p ≡ []) ↔ EachOnce i p
once_exactly i p = (
  (λ e n from up_to. (counted_once n _).0 (sym (times_loaded_lem n p) ∙ (each_once i p).0 e n from up_to)),
  (λ f. (each_once i p).1 (λ n from up_to. times_loaded_lem n p ∙ (counted_once n _).1 (f n from up_to))),
)

-- ---- the test of 14 for item n of stack s
module _ (i : Instance) (s : Stack) (n : ℕ) where
  abbrev on : Truck
  on = truck_of i s

  abbrev it : Item
  it = item i n

  -- where the loading order of the item's supplier is k
  docks_reads : (k : ℕ) → order_in on.suppliers (IU it) ≡ k → 1 ≤ k
      → (docks_served i s it ≡ true) ↔ (In (IK it) (get_or on.docks (k - 1) []) × In (IG it) on.plant_docks)
  docks_reads k e from = iff_trans (and_reads (leb 1 (supplier_dock_order i s it)) (leb 1 (plant_dock_order i s it))) (iff_both
      (subst (λ (d : List ℕ). (leb 1 (supplier_dock_order i s it) ≡ true) ↔ In (IK it) d) same
      (iff_trans (le_reads 1 (supplier_dock_order i s it)) (order-in (docks_of on (IU it)) (IK it))))
      (iff_trans (le_reads 1 (plant_dock_order i s it)) (order-in on.plant_docks (IG it))))
    where
      same : docks_of on (IU it) ≡ get_or on.docks (k - 1) []
      same = ap (λ (j : ℕ). get_or ([] ∷ on.docks) j []) e ∙ list_at on.docks k from

-- 10 to 14: each loaded item fits its truck
module _ (i : Instance) (p : List Stack) (formed : WellFormed i p) where
  -- the loading order of its supplier is the place k
  kept_fit : Every (KeptBy i p) item_rules → (s : Stack) → In s p → (n : ℕ) → In n s.load → ItemFits i s n
  unfolding item_rules
  kept_fit h s m n l =
      let kept = kept_rule i p item_rules h in
      let suppliers = (truck_of i s).suppliers in
      let supplier = (listed_reads (IU (item i n)) suppliers).0 ((items_kept i p supplier_visited).0 (kept 12) s m n l) in
      let at = order_stands suppliers (IU (item i n)) supplier in
      let day = (between_reads _ _ _).0 ((items_kept i p arrives_in_window).0 (kept 13) s m n l) in
      let docks = (docks_reads i s n (order_in suppliers (IU (item i n))) refl at.from).0 ((items_kept i p docks_served).0 (kept 14) s m n l) in
      record {
        plant = eqb-true _ _ ((items_kept i p plant_matches).0 (kept 10) s m n l);
        product = (listed_reads (IR (item i n)) (truck_of i s).products).0 ((items_kept i p product_carried).0 (kept 11) s m n l);
        supplier = supplier;
        not_early = day.0;
        not_late = day.1;
        k = order_in suppliers (IU (item i n));
        at_supplier = at;
        supplier_dock = docks.0;
        plant_dock = docks.1;
      }

  -- the supplier stands at one place alone, so it is the place that the test of 14 looks at
  fit_served : (s : Stack) → In s p → (n : ℕ) → ItemFits i s n → docks_served i s (item i n) ≡ true
  fit_served s m n h =
      let only = stands_order (truck_of i s).suppliers (IU (item i n)) h.k (formed.stacks s m).suppliers h.at_supplier in
      (docks_reads i s n h.k only h.at_supplier.from).1 (h.supplier_dock, h.plant_dock)

  pub items_exactly : Every (KeptBy i p) item_rules ↔ ((s : Stack) → In s p → (n : ℕ) → In n s.load → ItemFits i s n)
  unfolding item_rules
  items_exactly = (
    kept_fit,
    (λ f.
        (items_kept i p plant_matches).1 (λ s m n l. eq-eqb _ _ (f s m n l).plant)
        & (items_kept i p product_carried).1 (λ s m n l. (listed_reads (IR (item i n)) (truck_of i s).products).1 (f s m n l).product)
        & (items_kept i p supplier_visited).1 (λ s m n l. (listed_reads (IU (item i n)) (truck_of i s).suppliers).1 (f s m n l).supplier)
        & (items_kept i p arrives_in_window).1 (λ s m n l. (between_reads _ _ _).1 ((f s m n l).not_early, (f s m n l).not_late))
        & (items_kept i p docks_served).1 (λ s m n l. fit_served s m n (f s m n l))
        & tt),
  )
