-- Rules 15 to 21, the stack rules: they list no place exactly when the picture's words about stacks, and about two of them, hold.
use mathlib.Core.Path.{◌≡◌, refl, sym, ap, subst, ◌∙◌}
use mathlib.Core.Logic.{◌⊎◌, inl, inr, ⊎_elim, ◌↔◌}
use mathlib.Core.Bool.{Bool, true, ◌&&◌, ◌||◌}
use mathlib.Core.List.{List, [], ◌∷◌, map}
use Prim.Native.Nat.{ℕ, suc, ◌*◌, ◌≤◌}
use native.Mathlib.Omega.{arith}
use borrow.Author.Tests.{eqb-true, eq-eqb, leb-true, le-leb}
use lib.Dec.{leb, eqb}
use lib.IntN.{ℤ, pos, ◌*ℤ◌}
use lib.Signed.{◌≤ℤ◌}
use lib.ListN.{length, get_or}
use Rattle.meaning.specs.Lists.{In, Every, distinct, order_in}
use Rattle.meaning.specs.Model.{Instance, Truck, Stack, Item, item, truck_of, number, orientation, IL, IW, IS, ISM, IO, IP, IG, IU, IK, TMM, TF, TEM}
use Rattle.meaning.specs.Measures.{above, sm, plant_docks_of}
use Rattle.meaning.specs.Rules.{pair_places, stack_rules, stackable, plant_dock_count, consecutive, plant_docks_allowed, single_pair, orientation_kept}
use Rattle.meaning.specs.Rules.{weight_above, top_weight_within, item_count, stackability_kept, density_within}
use Rattle.meaning.specs.Feasible.{SameTruck, bottom_item, Stands, ItemStacks, OneDock, TwoDocks, weight_of, StackFits, StacksFit, HasTwoDocks}
use Rattle.meaning.specs.Claims.{KeptBy}
use Rattle.meaning.proofs.Tests.{true≢false, and_reads, or_reads, not_reads, le_reads, eq_reads, iff_trans, iff_sym, iff_both, iff_either}
use Rattle.meaning.proofs.Lists.{◌&◌, NoRepeat, in_dedup, dedup_no_repeat, in_map}
use Rattle.meaning.proofs.Orders.{order_stands, stands_order}
use Rattle.meaning.proofs.RuleKinds.{kept_rule, items_kept, stacks_kept, pairs_kept}
use Rattle.meaning.proofs.WellFormed.{WellFormed, WellFormedStack}
use Rattle.meaning.proofs.SignedSums.{le_signed, weight_signed}

-- ---- lists of numbers without repeats
-- the first number differs from the others
first_differs : (a : ℕ) (l : List ℕ) (b : ℕ) → NoRepeat (a ∷ l) → In b l → a ≡ b → ⊥
first_differs a l b d m e = d.0 (subst (λ (z : ℕ). In z l) (sym e) m)

-- at most one number: all are equal
all_equal : (l : List ℕ) → NoRepeat l → (length l ≤ 1) ↔ ((a b : ℕ) → In a l → In b l → a ≡ b)
all_equal [] d = ((λ h a b m n. absurd m), (λ f. omega arith))
all_equal (c ∷ []) d = ((λ h a b m n. ⊎_elim (λ e. ⊎_elim (λ e'. e ∙ sym e') (λ z. absurd z) n) (λ z. absurd z) m), (λ f. omega arith))
all_equal (c ∷ c' ∷ l) d = (
  (λ h. absurd (omega arith)),
  (λ f. absurd (first_differs c (c' ∷ l) c' d (inl refl) (f c c' (inl refl) (inr (inl refl))))),
)

-- more than one number: some two differ
two_differ : (l : List ℕ) → NoRepeat l → 2 ≤ length l → (a : ℕ) × (b : ℕ) × In a l × In b l × (a ≡ b → ⊥)
two_differ [] d h = absurd (omega arith)
two_differ (a ∷ []) d h = absurd (omega arith)
two_differ (a ∷ b ∷ l) d h = (a, b, inl refl, inr (inl refl), first_differs a (b ∷ l) b d (inl refl))

-- two numbers that differ, each one of two
two_ways : (a b c c' : ℕ) → (c ≡ c' → ⊥) → (c ≡ a) ⊎ (c ≡ b) → (c' ≡ a) ⊎ (c' ≡ b) → ((c ≡ a) × (c' ≡ b)) ⊎ ((c ≡ b) × (c' ≡ a))
two_ways a b c c' d (inl e) (inl e') = absurd (d (e ∙ sym e'))
two_ways a b c c' d (inl e) (inr e') = inl (e, e')
two_ways a b c c' d (inr e) (inl e') = inr (e, e')
two_ways a b c c' d (inr e) (inr e') = absurd (d (e ∙ sym e'))

-- all numbers are one of two: at most one is there, or just those two
of_two : (a b : ℕ) (l : List ℕ) → NoRepeat l → ((c : ℕ) → In c l → (c ≡ a) ⊎ (c ≡ b))
    → (length l ≤ 1) ⊎ ((l ≡ a ∷ b ∷ []) ⊎ (l ≡ b ∷ a ∷ []))
of_two a b [] d f = inl (omega arith)
of_two a b (c ∷ []) d f = inl (omega arith)
of_two a b (c ∷ c' ∷ []) d f =
    inr (⊎_elim (λ w. inl (pair w.0 w.1)) (λ w. inr (pair w.0 w.1))
    (two_ways a b c c' (first_differs c (c' ∷ []) c' d (inl refl)) (f c (inl refl)) (f c' (inr (inl refl)))))
  where
    pair : {u v : ℕ} → c ≡ u → c' ≡ v → ◌≡◌ {A = List ℕ} (c ∷ c' ∷ []) (u ∷ v ∷ [])
    pair e e' = cc
of_two a b (c ∷ c' ∷ c'' ∷ l) d f = absurd (no_third
    (two_ways a b c c' (first_differs c (c' ∷ c'' ∷ l) c' d (inl refl)) (f c (inl refl)) (f c' (inr (inl refl)))) (f c'' (inr (inr (inl refl)))))
  where
    differs : c ≡ c'' → ⊥
    differs = first_differs c (c' ∷ c'' ∷ l) c'' d (inr (inl refl))

    differs' : c' ≡ c'' → ⊥
    differs' = first_differs c' (c'' ∷ l) c'' d.1 (inl refl)

    no_third : ((c ≡ a) × (c' ≡ b)) ⊎ ((c ≡ b) × (c' ≡ a)) → (c'' ≡ a) ⊎ (c'' ≡ b) → ⊥
    no_third (inl w) (inl e) = differs (w.0 ∙ sym e)
    no_third (inl w) (inr e) = differs' (w.1 ∙ sym e)
    no_third (inr w) (inl e) = differs' (w.1 ∙ sym e)
    no_third (inr w) (inr e) = differs (w.0 ∙ sym e)

-- the members of a list of two
in_two : (l : List ℕ) (a b : ℕ) → l ≡ a ∷ b ∷ [] → (c : ℕ) → In c l ↔ ((c ≡ a) ⊎ (c ≡ b))
in_two l a b e c = subst (λ (z : List ℕ). In c z ↔ ((c ≡ a) ⊎ (c ≡ b))) (sym e) two
  where
    two : In c (a ∷ b ∷ []) ↔ ((c ≡ a) ⊎ (c ≡ b))
    two = (⊎_elim (λ q. inl q) (⊎_elim (λ q. inr q) (λ m. absurd m)), ⊎_elim (λ q. inl q) (λ q. inr (inl q)))

-- a list has two entries, and their loading orders follow one another
abbrev Follow : (ℕ → ℕ) → List ℕ → Type 0
Follow order l = (a : ℕ) × (b : ℕ) × (l ≡ a ∷ b ∷ []) × ((suc (order a) ≡ order b) ⊎ (suc (order b) ≡ order a))

-- the test of 16 wants exactly two entries
consecutive_reads : (order : ℕ → ℕ) (l : List ℕ) → (consecutive (map order l) ≡ true) ↔ Follow order l
unfolding consecutive
consecutive_reads order l = (from l, (λ w. subst (λ (z : List ℕ). consecutive (map order z) ≡ true) (sym w.2) ((two w.0 w.1).1 w.3)))
  where
    two : (a b : ℕ) → ((eqb (suc (order a)) (order b) || eqb (suc (order b)) (order a)) ≡ true) ↔ ((suc (order a) ≡ order b) ⊎ (suc (order b) ≡ order a))
    two a b = iff_trans (or_reads _ _) (iff_either (eq_reads (suc (order a)) (order b)) (eq_reads (suc (order b)) (order a)))

    from : (l : List ℕ) → consecutive (map order l) ≡ true → Follow order l
    from [] e = absurd (true≢false (sym e))
    from (a ∷ []) e = absurd (true≢false (sym e))
    from (a ∷ b ∷ []) e = (a, b, refl, (two a b).0 e)
    from (a ∷ b ∷ c ∷ l) e = absurd (true≢false (sym e))

-- ---- plant docks of a stack
module _ (i : Instance) (s : Stack) where
  abbrev on : Truck
  on = truck_of i s

  abbrev docks : List ℕ
  docks = plant_docks_of i s

  abbrev order : ℕ → ℕ
  order = order_in on.plant_docks

  -- each dock is counted once
  docks_distinct : NoRepeat docks
  unfolding plant_docks_of
  docks_distinct = dedup_no_repeat eqb eq_reads (map (λ n. IG (item i n)) s.load)

  -- they are the plant docks of its items
  in_docks : (g : ℕ) → In g docks ↔ ((n : ℕ) × In n s.load × (g ≡ IG (item i n)))
  unfolding plant_docks_of
  in_docks g = iff_trans (in_dedup eqb eq_reads (map (λ n. IG (item i n)) s.load) g) (in_map (λ n. IG (item i n)) s.load g)

  -- so each item's is among them
  dock_in : (n : ℕ) → In n s.load → In (IG (item i n)) docks
  dock_in n m = (in_docks (IG (item i n))).1 (n, m, refl)

  -- one dock at most: all items are for the same
  one_dock : (plant_dock_count i s ≤ 1) ↔ OneDock i s
  one_dock = (
    (λ h. record { dock = λ n m k l. (all_equal docks docks_distinct).0 h (IG (item i n)) (IG (item i m)) (dock_in n k) (dock_in m l) }),
    (λ h. (all_equal docks docks_distinct).1 (λ a b k l.
        let v = (in_docks a).0 k in
        let w = (in_docks b).0 l in
        v.2 ∙ h.dock v.0 w.0 v.1 w.1 ∙ sym w.2)),
  )

  -- the two ways to keep 16: one dock, or TF = 1 and two that follow one another
  fits_reads : (p : List Stack) → (plant_docks_allowed i p s ≡ true) ↔ ((plant_dock_count i s ≤ 1) ⊎ ((TF on ≡ 1) × Follow order docks))
  fits_reads p =
      iff_trans (or_reads (leb (plant_dock_count i s) 1) (eqb (TF on) 1 && follow))
      (iff_either (le_reads (plant_dock_count i s) 1) (iff_trans (and_reads (eqb (TF on) 1) follow) (iff_both (eq_reads (TF on) 1) (consecutive_reads order docks))))
    where
      follow : Bool
      follow = consecutive (map order docks)

  -- where rule 14 is kept, every item's plant dock is listed on the truck
  module _ (listed-all : (n : ℕ) → In n s.load → In (IG (item i n)) on.plant_docks) where
    -- so is every dock of the stack
    docks_listed : (g : ℕ) → In g docks → In g on.plant_docks
    docks_listed g m = let w = (in_docks g).0 m in subst (λ (z : ℕ). In z on.plant_docks) (sym w.2) (listed-all w.0 w.1)

    -- two docks whose loading orders follow one another stand at places that do
    two_stand : (a b : ℕ) → ((g : ℕ) → In g docks ↔ ((g ≡ a) ⊎ (g ≡ b))) → suc (order a) ≡ order b → TwoDocks i s
    two_stand a b f e = record {
      k = order a;
      first = a;
      second = b;
      at_first = order_stands on.plant_docks a (docks_listed a ((f a).1 (inl refl)));
      at_second = subst (Stands on.plant_docks b) (sym e) (order_stands on.plant_docks b (docks_listed b ((f b).1 (inr refl))));
      dock = λ n m. (f (IG (item i n))).0 (dock_in n m);
    }

    -- whichever of the two comes first
    follow_two : Follow order docks → TwoDocks i s
    follow_two w =
        let f = in_two docks w.0 w.1 w.2 in
        ⊎_elim (two_stand w.0 w.1 f)
        (two_stand w.1 w.0 (λ g. ((λ m. ⊎_elim (λ e. inr e) (λ e. inl e) ((f g).0 m)), (λ h. (f g).1 (⊎_elim (λ e. inr e) (λ e. inl e) h)))))
        w.3

    -- back: the places of the docks are their loading orders, for the truck lists no dock twice; both docks need not be in use
    two_follow : distinct on.plant_docks ≡ true → TwoDocks i s → (plant_dock_count i s ≤ 1) ⊎ Follow order docks
    two_follow d h =
        ⊎_elim (λ k. inl k)
        (⊎_elim (λ e. inr (h.first, h.second, e, inl next)) (λ e. inr (h.second, h.first, e, inr next)))
        (of_two h.first h.second docks docks_distinct (λ g m.
        let w = (in_docks g).0 m in
        ⊎_elim (λ e. inl (w.2 ∙ e)) (λ e. inr (w.2 ∙ e)) (h.dock w.0 w.1)))
      where
        next : suc (order h.first) ≡ order h.second
        next =
            ap suc (stands_order on.plant_docks h.first h.k d h.at_first)
            ∙ sym (stands_order on.plant_docks h.second (suc h.k) d h.at_second)

    -- 16: the test against the picture
    docks_exactly : distinct on.plant_docks ≡ true → (p : List Stack) → (plant_docks_allowed i p s ≡ true) ↔ (OneDock i s ⊎ ((TF on ≡ 1) × TwoDocks i s))
    docks_exactly d p = (
      (λ e. ⊎_elim (λ h. inl (one_dock.0 h)) (λ h. inr (h.0, follow_two h.1)) ((fits_reads p).0 e)),
      ⊎_elim (λ h. (fits_reads p).1 (inl (one_dock.1 h))) (λ h. (fits_reads p).1 (⊎_elim (λ k. inl k) (λ k. inr (h.0, k)) (two_follow d h.1))),
    )

-- ---- the other tests of one stack
-- five tests at once
all_five : (a b c d e : Bool) → ((a && b && c && d && e) ≡ true) ↔ ((a ≡ true) × (b ≡ true) × (c ≡ true) × (d ≡ true) × (e ≡ true))
all_five a b c d e = (
  (λ h.
      let k = (and_reads (a && b && c && d) e).0 h in
      let l = (and_reads (a && b && c) d).0 k.0 in
      let m = (and_reads (a && b) c).0 l.0 in
      let n = (and_reads a b).0 m.0 in
      (n.0, n.1, m.1, l.1, k.1)),
  (λ h. (and_reads (a && b && c && d) e).1 ((and_reads (a && b && c) d).1 ((and_reads (a && b) c).1 ((and_reads a b).1 (h.0, h.1), h.2), h.3), h.4)),
)

-- 15: an item is like the bottom item
alike_reads : (i : Instance) (s : Stack) (a : Item)
    → (stackable i s a ≡ true)
    ↔ ((IU a ≡ IU (bottom_item i s)) × (IP a ≡ IP (bottom_item i s)) × (IS a ≡ IS (bottom_item i s)) × (ISM a ≡ ISM (bottom_item i s)) × (IK a ≡ IK (bottom_item i s)))
alike_reads i s a = (
  (λ e. let h = five.0 e in (eqb-true _ _ h.0, eqb-true _ _ h.1, eqb-true _ _ h.2, eqb-true _ _ h.3, eqb-true _ _ h.4)),
  (λ h. five.1 (eq-eqb _ _ h.0, eq-eqb _ _ h.1, eq-eqb _ _ h.2, eq-eqb _ _ h.3, eq-eqb _ _ h.4)),
)
  where
    b : Item
    b = bottom_item i s

    five : (stackable i s a ≡ true)
        ↔ ((eqb (IU a) (IU b) ≡ true) × (eqb (IP a) (IP b) ≡ true) × (eqb (IS a) (IS b) ≡ true) × (eqb (ISM a) (ISM b) ≡ true) × (eqb (IK a) (IK b) ≡ true))
    five = all_five (eqb (IU a) (IU b)) (eqb (IP a) (IP b)) (eqb (IS a) (IS b)) (eqb (ISM a) (ISM b)) (eqb (IK a) (IK b))

-- 18: a forced orientation is the stack's
turned_reads : (i : Instance) (s : Stack) (a : Item) → (orientation_kept i s a ≡ true) ↔ ((IO a ≡ 0) ⊎ (IO a ≡ orientation s))
turned_reads i s a = iff_trans (or_reads (eqb (IO a) 0) (eqb (IO a) (orientation s))) (iff_either (eq_reads (IO a) 0) (eq_reads (IO a) (orientation s)))

-- 19: signed or not, the weight above the bottom item is the same number
top_exactly : (i : Instance) (p : List Stack) (s : Stack) → (top_weight_within i p s ≡ true) ↔ (weight_of i (above s) ≤ℤ pos (TMM (truck_of i s)))
top_exactly i p s =
    subst (λ (z : ℤ). (top_weight_within i p s ≡ true) ↔ (z ≤ℤ pos (TMM (truck_of i s)))) (sym (weight_signed i (above s)))
    (iff_trans (le_reads (weight_above i s) (TMM (truck_of i s))) (iff_sym (le_signed (weight_above i s) (TMM (truck_of i s)))))

-- 21: so is the stack's weight
density_exactly : (i : Instance) (p : List Stack) (s : Stack)
    → (density_within i p s ≡ true)
    ↔ ((weight_of i s.load *ℤ pos 1000000) ≤ℤ (pos (TEM (truck_of i s)) *ℤ pos (IL (bottom_item i s)) *ℤ pos (IW (bottom_item i s))))
density_exactly i p s =
    let limit = TEM (truck_of i s) * IL (bottom_item i s) * IW (bottom_item i s) in
    subst (λ (z : ℤ). (density_within i p s ≡ true) ↔ ((z *ℤ pos 1000000) ≤ℤ pos limit)) (sym (weight_signed i s.load))
    (iff_trans (le_reads (sm i s * 1000000) limit) (iff_sym (le_signed (sm i s * 1000000) limit)))

-- 15, 18 and 20
module _ (i : Instance) (p : List Stack) (s : Stack) where
  -- the bottom item's limit on the number of items is by 15 every item's
  items_stack : ((n : ℕ) → In n s.load → stackable i s (item i n) ≡ true)
      → ((n : ℕ) → In n s.load → orientation_kept i s (item i n) ≡ true)
      → stackability_kept i p s ≡ true
      → (n : ℕ) → In n s.load → ItemStacks i s n
  items_stack same turned few n m =
      let h = (alike_reads i s (item i n)).0 (same n m) in
      record {
        supplier = h.0;
        plant = h.1;
        code = h.2;
        maximal = h.3;
        dock = h.4;
        turned = (turned_reads i s (item i n)).0 (turned n m);
        not_too_many = subst (λ (z : ℕ). length s.load ≤ z) (sym h.3) (leb-true (length s.load) (ISM (bottom_item i s)) few);
      }

  stack_alike : StackFits i s → (n : ℕ) → In n s.load → stackable i s (item i n) ≡ true
  stack_alike h n m = let k = h.items n m in (alike_reads i s (item i n)).1 (k.supplier, k.plant, k.code, k.maximal, k.dock)

  -- back: the bottom item is one of them
  stack_few : WellFormedStack i s → StackFits i s → stackability_kept i p s ≡ true
  stack_few formed h = le-leb (length s.load) (ISM (bottom_item i s)) (h.items (get_or s.load 0 0) formed.some).not_too_many

-- ---- 17
-- where 16 is kept, a stack has two plant docks exactly when two of its items are for different ones
two_exactly : (i : Instance) (p : List Stack) (s : Stack) → plant_docks_allowed i p s ≡ true → (plant_dock_count i s ≡ 2) ↔ HasTwoDocks i s
two_exactly i p s kept = (differ, λ h. ⊎_elim (one h) (λ k. ap length k.1.2) ((fits_reads i s p).0 kept))
  where
    one : HasTwoDocks i s → plant_dock_count i s ≤ 1 → plant_dock_count i s ≡ 2
    one h e = absurd (h.differ (((one_dock i s).0 e).dock h.first h.second h.of_first h.of_second))

    differ : plant_dock_count i s ≡ 2 → HasTwoDocks i s
    differ e =
        let w = two_differ (docks i s) (docks_distinct i s) (omega (arith, e)) in
        let v = (in_docks i s w.0).0 w.2 in
        let u = (in_docks i s w.1).0 w.3 in
        record { first = v.0; second = u.0; of_first = v.1; of_second = u.1; differ = λ q. w.4 (v.2 ∙ q ∙ sym u.2) }

-- the test of 17, which asks for two docks of each and for one code
pair_reads : (i : Instance) (s r : Stack)
    → (single_pair i s r ≡ true) ↔ (plant_dock_count i s ≡ 2 → plant_dock_count i r ≡ 2 → IS (bottom_item i s) ≡ IS (bottom_item i r) → ⊥)
pair_reads i s r = (
  (λ e a b q. (not_reads (first && second && code)).0 e (three.1 ((a, b), q))),
  (λ f. (not_reads (first && second && code)).1 (λ e. let h = three.0 e in f h.0.0 h.0.1 h.1)),
)
  where
    first : Bool
    first = eqb (plant_dock_count i s) 2

    second : Bool
    second = eqb (plant_dock_count i r) 2

    code : Bool
    code = eqb (IS (bottom_item i s)) (IS (bottom_item i r))

    three : ((first && second && code) ≡ true) ↔ (((plant_dock_count i s ≡ 2) × (plant_dock_count i r ≡ 2)) × (IS (bottom_item i s) ≡ IS (bottom_item i r)))
    three =
        iff_trans (and_reads (first && second) code)
        (iff_both (iff_trans (and_reads first second) (iff_both (eq_reads (plant_dock_count i s) 2) (eq_reads (plant_dock_count i r) 2))) (eq_reads (IS (bottom_item i s)) (IS (bottom_item i r))))

-- 17: no two stacks of one code on one used truck both have two plant docks
pairs_exactly : (i : Instance) (p : List Stack) → ((s : Stack) → In s p → plant_docks_allowed i p s ≡ true)
    → (pair_places single_pair i p ≡ [])
    ↔ ((s r : Stack) → In s p → In r p → SameTruck s r → (number s ≡ number r → ⊥) → IS (bottom_item i s) ≡ IS (bottom_item i r) → HasTwoDocks i s → HasTwoDocks i r → ⊥)
pairs_exactly i p kept = (
  (λ e s r m n o d q h k.
      (pair_reads i s r).0 ((pairs_kept i p single_pair).0 e s r m n o d) ((two_exactly i p s (kept s m)).1 h) ((two_exactly i p r (kept r n)).1 k) q),
  (λ f. (pairs_kept i p single_pair).1 (λ s r m n o d.
      (pair_reads i s r).1 (λ a b q. f s r m n o d q ((two_exactly i p s (kept s m)).0 a) ((two_exactly i p r (kept r n)).0 b)))),
)

-- ---- 15 to 21: each stack fits its truck
module _ (i : Instance) (p : List Stack) (formed : WellFormed i p)
    (listed-all : (s : Stack) → In s p → (n : ℕ) → In n s.load → In (IG (item i n)) (truck_of i s).plant_docks) where
  -- 16, where rule 14 is kept
  docks_read : (s : Stack) → In s p → (plant_docks_allowed i p s ≡ true) ↔ (OneDock i s ⊎ ((TF (truck_of i s) ≡ 1) × TwoDocks i s))
  docks_read s m = docks_exactly i s (listed-all s m) (formed.stacks s m).plant_docks p

  kept_fit : Every (KeptBy i p) stack_rules → StacksFit i p
  unfolding stack_rules
  kept_fit h =
      let kept = kept_rule i p stack_rules h in
      let mixed = (items_kept i p stackable).0 (kept 15) in
      let docks = (stacks_kept i p plant_docks_allowed plant_dock_count).0 (kept 16) in
      let turned = (items_kept i p orientation_kept).0 (kept 18) in
      let tooMany = (stacks_kept i p stackability_kept item_count).0 (kept 20) in
      record {
        each = λ s m. record {
          items = items_stack i p s (mixed s m) (turned s m) (tooMany s m);
          docks = (docks_read s m).0 (docks s m);
          top_weight = (top_exactly i p s).0 ((stacks_kept i p top_weight_within weight_above).0 (kept 19) s m);
          density = (density_exactly i p s).0 ((stacks_kept i p density_within sm).0 (kept 21) s m);
        };
        single_pair = (pairs_exactly i p docks).0 (kept 17);
      }

  pub stacks_exactly : Every (KeptBy i p) stack_rules ↔ StacksFit i p
  unfolding stack_rules
  stacks_exactly = (
    kept_fit,
    (λ f.
        let docks : (s : Stack) → In s p → plant_docks_allowed i p s ≡ true = λ s m. (docks_read s m).1 (f.each s m).docks in
        (items_kept i p stackable).1 (λ s m. stack_alike i p s (f.each s m))
        & (stacks_kept i p plant_docks_allowed plant_dock_count).1 docks
        & (pairs_exactly i p docks).1 f.single_pair
        & (items_kept i p orientation_kept).1 (λ s m n k. (turned_reads i s (item i n)).1 ((f.each s m).items n k).turned)
        & (stacks_kept i p top_weight_within weight_above).1 (λ s m. (top_exactly i p s).1 (f.each s m).top_weight)
        & (stacks_kept i p stackability_kept item_count).1 (λ s m. stack_few i p s (formed.stacks s m) (f.each s m))
        & (stacks_kept i p density_within sm).1 (λ s m. (density_exactly i p s).1 (f.each s m).density)
        & tt),
  )
