-- Rules 26 to 28 say what the picture says of weights and levers, used truck by used truck and departure by departure.
use mathlib.Core.Path.{◌≡◌, refl, sym, ap, ap₂, subst, ◌∙◌}
use mathlib.Core.Logic.{inl, inr, ⊎_elim, ◌↔◌}
use mathlib.Core.Bool.{Bool, true, false, cond, ◌&&◌}
use mathlib.Core.List.{List, [], ◌∷◌, map}
use Prim.Native.Nat.{ℕ, ◌+◌, ◌*◌, ◌≤◌}
use native.Mathlib.Omega.{arith}
use lib.IntN.{ℤ, pos, ◌+ℤ◌, ◌-ℤ◌, ◌*ℤ◌, zero-*ℤ, *ℤ_comm, +ℤ_idl}
use lib.Signed.{◌≤ℤ◌}
use lib.ListN.{length, take}
use Rattle.meaning.specs.Lists.{In, filter, listed, between, sum, sumℤ}
use Rattle.meaning.specs.Model.{Instance, Truck, Stack, truck_numbered, truck_of, x, IU, TMm, CM, CJfm, CJfc, CJfh, EM, EJhr, EJcr, EJeh, EMmr, EMmm}
use Rattle.meaning.specs.Measures.{bottom, xe, sm, supplier_order, UsedTruck, used_by, same_used, used_trucks, stacks_on, weight_on, departures, stacks_at_departure, lever, H}
use Rattle.meaning.specs.Rules.{truck_places, departure_places, counts, within_load_limit, middle_axle_holds, rear_axle_holds}
use Rattle.meaning.specs.Feasible.{weight_of, sum_where, on_truck_of, on_at, end_x, to_middle, to_rear, AxleLoadsWithin}
use Rattle.meaning.proofs.Tests.{decide, and_reads, le_reads, le_z_reads, iff_trans, iff_sym}
use Rattle.meaning.proofs.Lists.{in_filter, in_map, in_dedup, in_up_from}
use Rattle.meaning.proofs.Orders.{order_take}
use Rattle.meaning.proofs.RuleKinds.{used_reads, one_truck, counts_reads, trucks_kept, departures_kept}
use Rattle.meaning.proofs.Ring.{apart_of, same_less, ring}
use Rattle.meaning.proofs.SignedSums.{sum_signed, le_signed, weight_signed}
use Rattle.meaning.proofs.WellFormed.{WellFormed}
use Rattle.meaning.proofs.Extents.{formed_ends}

-- ---- sums over the stacks that a test picks
module _ {A : Type 0} where
  filter_twice : (test also : A → Bool) (l : List A) → filter also (filter test l) ≡ filter (λ a. test a && also a) l
  unfolding filter
  filter_twice test also [] = refl
  filter_twice test also (a ∷ l) = go (test a) (filter_twice test also l)
    where
      go : (t : Bool) → filter also (filter test l) ≡ filter (λ a. test a && also a) l
          → filter also (cond t (a ∷ filter test l) (filter test l)) ≡ cond (t && also a) (a ∷ filter (λ a. test a && also a) l) (filter (λ a. test a && also a) l)
      go true e = ap (λ (r : List A). cond (also a) (a ∷ r) r) e
      go false e = e

  filter_same : (test test' : A → Bool) (l : List A) → ((a : A) → test a ≡ test' a) → filter test l ≡ filter test' l
  unfolding filter
  filter_same test test' [] h = refl
  filter_same test test' (a ∷ l) h = ap₂ (λ (t : Bool) (r : List A). cond t (a ∷ r) r) (h a) (filter_same test test' l h)

  sum_picked : (test : A → Bool) (f : A → ℤ) (l : List A) → sumℤ f (filter test l) ≡ sumℤ (λ a. cond (test a) (f a) (pos 0)) l
  unfolding filter sumℤ
  sum_picked test f [] = refl
  sum_picked test f (a ∷ l) = go (test a) (sum_picked test f l)
    where
      go : (t : Bool) → sumℤ f (filter test l) ≡ sumℤ (λ a. cond (test a) (f a) (pos 0)) l
          → sumℤ f (cond t (a ∷ filter test l) (filter test l)) ≡ cond t (f a) (pos 0) +ℤ sumℤ (λ a. cond (test a) (f a) (pos 0)) l
      go true e = ap (λ (z : ℤ). f a +ℤ z) e
      go false e = e ∙ sym (+ℤ_idl (sumℤ (λ a. cond (test a) (f a) (pos 0)) l))

  sum_same : (f g : A → ℤ) (l : List A) → ((a : A) → In a l → f a ≡ g a) → sumℤ f l ≡ sumℤ g l
  unfolding sumℤ
  sum_same f g [] h = refl
  sum_same f g (a ∷ l) h = ap₂ ◌+ℤ◌ (h a (inl refl)) (sum_same f g l (λ b m. h b (inr m)))

  -- a factor of every term, and a difference of two sums
  sum_times : (f : A → ℤ) (c : ℤ) (l : List A) → sumℤ f l *ℤ c ≡ sumℤ (λ a. f a *ℤ c) l
  unfolding sumℤ
  sum_times f c [] = zero-*ℤ c
  sum_times f c (a ∷ l) = spread (f a) (sumℤ f l) c ∙ ap (λ (z : ℤ). f a *ℤ c +ℤ z) (sum_times f c l)
    where
      spread : (y z c : ℤ) → (y +ℤ z) *ℤ c ≡ y *ℤ c +ℤ z *ℤ c
      spread y z c = rw (apart_of y, apart_of z, apart_of c) (simp ring (same_less _ _ _ _ (omega arith)))

  sum_minus : (f g : A → ℤ) (l : List A) → sumℤ f l -ℤ sumℤ g l ≡ sumℤ (λ a. f a -ℤ g a) l
  unfolding sumℤ
  sum_minus f g [] = refl
  sum_minus f g (a ∷ l) = paired (f a) (g a) (sumℤ f l) (sumℤ g l) ∙ ap (λ (z : ℤ). (f a -ℤ g a) +ℤ z) (sum_minus f g l)
    where
      paired : (a b c d : ℤ) → (a +ℤ c) -ℤ (b +ℤ d) ≡ (a -ℤ b) +ℤ (c -ℤ d)
      paired a b c d = rw (apart_of a, apart_of b, apart_of c, apart_of d) (simp ring (same_less _ _ _ _ (omega arith)))

-- ---- used trucks, and the stacks that are on
-- a used truck is a truck and copy with a stack
pub in_used : (p : List Stack) (u : UsedTruck) → In u (used_trucks p) ↔ ((s : Stack) × In s p × (u ≡ used_by s))
unfolding used_trucks
in_used p u = iff_trans (in_dedup same_used used_reads (map used_by p) u) (in_map used_by p u)

-- a departure for each supplier
in_departures : (i : Instance) (u : UsedTruck) (k : ℕ) → In k (departures i u) ↔ ((1 ≤ k) × (k ≤ length (truck_numbered i u.truck).suppliers))
in_departures i u k =
    let n = length (truck_numbered i u.truck).suppliers in
    let h = in_up_from 1 n k in
    ((λ m. let w = h.0 m in (w.0, omega (arith, w.1))), (λ w. h.1 (w.0, omega (arith, w.1))))

-- the stacks that are on at departure k of the used truck of s are those that the picture picks
on_at_lem : (i : Instance) (p : List Stack) (s : Stack) (k : ℕ) → stacks_at_departure i p (used_by s) k ≡ filter (on_at i s k) p
unfolding stacks_at_departure stacks_on
on_at_lem i p s k = filter_twice (on_truck_of s) (λ r. between 1 k (supplier_order i r)) p ∙ filter_same _ (on_at i s k) p same
  where
    -- the order of a supplier on one truck
    order : (r : Stack) → on_truck_of s r ≡ true → between 1 k (supplier_order i r) ≡ listed (IU (bottom i r)) (take k (truck_of i s).suppliers)
    order r e =
        order_take (truck_of i r).suppliers (IU (bottom i r)) k
        ∙ ap (λ (n : ℕ). listed (IU (bottom i r)) (take k (truck_numbered i n).suppliers)) (sym ((one_truck s r).0 e).truck)

    same : (r : Stack) → (on_truck_of s r && between 1 k (supplier_order i r)) ≡ on_at i s k r
    same r = ⊎_elim (λ e. ap (λ (b : Bool). on_truck_of s r && b) (order r e)) (λ e. rw e) (decide (on_truck_of s r))

-- ---- what one stack brings, over whole numbers
middle_of : (w x e eh hr fh : ℕ)
    → pos w *ℤ (pos (2 * (eh + hr)) -ℤ pos x -ℤ pos e) *ℤ pos fh ≡ pos w *ℤ (pos 2 *ℤ (pos eh +ℤ pos hr) -ℤ pos x -ℤ pos e) *ℤ pos fh
middle_of w x e eh hr fh = simp ring (same_less _ _ _ _ (omega arith))

rear_of : (w x e eh hr : ℕ)
    → pos 2 *ℤ pos hr *ℤ pos w -ℤ pos w *ℤ (pos (2 * (eh + hr)) -ℤ pos x -ℤ pos e) ≡ pos w *ℤ (pos x +ℤ pos e -ℤ pos 2 *ℤ pos eh)
rear_of w x e eh hr = simp ring (same_less _ _ _ _ (omega arith))

-- what the trailer and the tractor bring besides
middle_all : (hr cm fc fh em cr : ℕ) (S : ℤ)
    → pos 2 *ℤ pos hr *ℤ pos cm *ℤ pos fc +ℤ (S +ℤ pos 2 *ℤ pos em *ℤ pos cr) *ℤ pos fh
    ≡ S *ℤ pos fh +ℤ pos 2 *ℤ pos em *ℤ pos cr *ℤ pos fh +ℤ pos 2 *ℤ pos hr *ℤ pos cm *ℤ pos fc
middle_all hr cm fc fh em cr S = rw (apart_of S) (simp ring (same_less _ _ _ _ (omega arith)))

rear_all : (hr em cr w : ℕ) (S : ℤ)
    → pos 2 *ℤ pos hr *ℤ (pos w +ℤ pos em) -ℤ (S +ℤ pos 2 *ℤ pos em *ℤ pos cr)
    ≡ pos 2 *ℤ pos hr *ℤ pos w -ℤ S +ℤ pos 2 *ℤ pos em *ℤ (pos hr -ℤ pos cr)
rear_all hr em cr w S = rw (apart_of S) (simp ring (same_less _ _ _ _ (omega arith)))

-- ---- a list of stacks that are on, all of a well-formed plan
module _ (i : Instance) (t : Truck) (on : List Stack) (ends : (s : Stack) → In s on → end_x i s ≡ xe i s) where
  stack_middle : (s : Stack) → In s on → lever i t s *ℤ pos (CJfh t) ≡ to_middle i t s
  unfolding lever
  stack_middle s m =
      middle_of (sm i s) (x s) (xe i s) (EJeh t) (EJhr t) (CJfh t)
      ∙ ap₂ (λ (w : ℤ) (e : ℕ). w *ℤ (pos 2 *ℤ (pos (EJeh t) +ℤ pos (EJhr t)) -ℤ pos (x s) -ℤ pos e) *ℤ pos (CJfh t)) (sym (weight_signed i s.load)) (sym (ends s m))

  stack_rear : (s : Stack) → In s on → pos 2 *ℤ pos (EJhr t) *ℤ pos (sm i s) -ℤ lever i t s ≡ to_rear i t s
  unfolding lever
  stack_rear s m =
      rear_of (sm i s) (x s) (xe i s) (EJeh t) (EJhr t)
      ∙ ap₂ (λ (w : ℤ) (e : ℕ). w *ℤ (pos (x s) +ℤ pos e -ℤ pos 2 *ℤ pos (EJeh t))) (sym (weight_signed i s.load)) (sym (ends s m))

  middle_sum : sumℤ (lever i t) on *ℤ pos (CJfh t) ≡ sumℤ (to_middle i t) on
  middle_sum = sum_times (lever i t) (pos (CJfh t)) on ∙ sum_same _ (to_middle i t) on stack_middle

  rear_sum : pos 2 *ℤ pos (EJhr t) *ℤ pos (weight_on i on) -ℤ sumℤ (lever i t) on ≡ sumℤ (to_rear i t) on
  unfolding weight_on
  rear_sum =
      ap (λ (z : ℤ). z -ℤ sumℤ (lever i t) on) (
      ap (λ (w : ℤ). pos 2 *ℤ pos (EJhr t) *ℤ w) (sym (sum_signed (sm i) on))
      ∙ *ℤ_comm (pos 2 *ℤ pos (EJhr t)) (sumℤ (λ s. pos (sm i s)) on)
      ∙ sum_times (λ s. pos (sm i s)) (pos 2 *ℤ pos (EJhr t)) on
      ∙ sum_same _ _ on (λ s m. *ℤ_comm (pos (sm i s)) (pos 2 *ℤ pos (EJhr t)))
      )
      ∙ sum_minus (λ s. pos 2 *ℤ pos (EJhr t) *ℤ pos (sm i s)) (lever i t) on
      ∙ sum_same _ (to_rear i t) on stack_rear

  -- 27
  middle_reads : (middle_axle_holds i t on ≡ true)
      ↔ ((sumℤ (to_middle i t) on +ℤ pos 2 *ℤ pos (EM t) *ℤ pos (EJcr t) *ℤ pos (CJfh t) +ℤ pos 2 *ℤ pos (EJhr t) *ℤ pos (CM t) *ℤ pos (CJfc t))
      ≤ℤ (pos 2 *ℤ pos (EJhr t) *ℤ pos (CJfm t) *ℤ pos (EMmm t)))
  unfolding middle_axle_holds H
  middle_reads =
      rw (middle_all (EJhr t) (CM t) (CJfc t) (CJfh t) (EM t) (EJcr t) (sumℤ (lever i t) on), middle_sum) (le_z_reads _ _)

  -- 28
  rear_reads : (rear_axle_holds i t on ≡ true)
      ↔ ((sumℤ (to_rear i t) on +ℤ pos 2 *ℤ pos (EM t) *ℤ (pos (EJhr t) -ℤ pos (EJcr t))) ≤ℤ (pos 2 *ℤ pos (EJhr t) *ℤ pos (EMmr t)))
  unfolding rear_axle_holds H
  rear_reads = rw (rear_all (EJhr t) (EM t) (EJcr t) (weight_on i on) (sumℤ (lever i t) on), rear_sum) (le_z_reads _ _)

-- ---- 26 overload
module _ (i : Instance) (p : List Stack) where
  weight_reads : (s : Stack) → (within_load_limit i (truck_of i s) (stacks_on p (used_by s)) ≡ true)
      ↔ (sum_where (on_truck_of s) (λ r. weight_of i r.load) p ≤ℤ pos (TMm (truck_of i s)))
  unfolding within_load_limit weight_on stacks_on
  weight_reads s =
      let on = filter (on_truck_of s) p in
      let signed : sum_where (on_truck_of s) (λ r. weight_of i r.load) p ≡ pos (sum (sm i) on) =
      sym (sum_picked (on_truck_of s) (λ r. weight_of i r.load) p) ∙ sum_same _ _ on (λ r m. weight_signed i r.load) ∙ sum_signed (sm i) on in
      rw signed (iff_trans (le_reads (sum (sm i) on) (TMm (truck_of i s))) (iff_sym (le_signed (sum (sm i) on) (TMm (truck_of i s)))))

  pub weights_exactly : (truck_places within_load_limit i p ≡ [])
      ↔ ((s : Stack) → In s p → sum_where (on_truck_of s) (λ r. weight_of i r.load) p ≤ℤ pos (TMm (truck_of i s)))
  weights_exactly = (
    (λ e s m. (weight_reads s).0 ((trucks_kept i p within_load_limit).0 e (used_by s) ((in_used p (used_by s)).1 (s, m, refl)))),
    (λ f. (trucks_kept i p within_load_limit).1 (λ u m.
        let w = (in_used p u).0 m in
        subst (λ (v : UsedTruck). within_load_limit i (truck_numbered i v.truck) (stacks_on p v) ≡ true) (sym w.2) ((weight_reads w.0).1 (f w.0 w.1)))),
  )

-- ---- 27 and 28
module _ (i : Instance) (p : List Stack) (formed : WellFormed i p) where
  -- the ends of the stacks that are on
  on_ends : (s : Stack) (k : ℕ) (r : Stack) → In r (filter (on_at i s k) p) → end_x i r ≡ xe i r
  on_ends s k r m = (formed_ends i r (formed.stacks r ((in_filter (on_at i s k) p r).0 m).0)).at_x

  -- 27 and 28 at one departure of the used truck of s
  bears_reads : (s : Stack) (k : ℕ)
      → ((middle_axle_holds i (truck_of i s) (stacks_at_departure i p (used_by s) k) ≡ true) × (rear_axle_holds i (truck_of i s) (stacks_at_departure i p (used_by s) k) ≡ true))
      ↔ AxleLoadsWithin i p s k (truck_of i s)
  bears_reads s k =
      let t = truck_of i s in
      let on = filter (on_at i s k) p in
      let middle = middle_reads i t on (on_ends s k) in
      let rear = rear_reads i t on (on_ends s k) in
      rw (on_at_lem i p s k) (
        (λ h. record { middle = rw (sum_picked (on_at i s k) (to_middle i t) p) at (middle.0 h.0); rear = rw (sum_picked (on_at i s k) (to_rear i t) p) at (rear.0 h.1) }),
        (λ b. (middle.1 (rw (sum_picked (on_at i s k) (to_middle i t) p) b.middle), rear.1 (rw (sum_picked (on_at i s k) (to_rear i t) p) b.rear))),
      )

  -- a departure counts exactly when one of the stacks that are on begins it
  abbrev KeptAt : (Instance → Truck → List Stack → Bool) → Type 0
  KeptAt kept = (s : Stack) → In s p → (k : ℕ) → 1 ≤ k → k ≤ length (truck_of i s).suppliers → on_at i s k s ≡ true → kept i (truck_of i s) (stacks_at_departure i p (used_by s) k) ≡ true

  departure_reads : (kept : Instance → Truck → List Stack → Bool) → (departure_places kept i p ≡ []) ↔ KeptAt kept
  departure_reads kept = (
    (λ e s m k lo hi on.
        (departures_kept i p kept).0 e (used_by s) ((in_used p (used_by s)).1 (s, m, refl)) k ((in_departures i (used_by s) k).1 (lo, hi))
        ((counts_reads (stacks_at_departure i p (used_by s) k)).1 (s, rw (on_at_lem i p s k) ((in_filter (on_at i s k) p s).1 (m, on))))),
    (λ f. (departures_kept i p kept).1 (λ u m k n c.
        let w = (in_used p u).0 m in
        subst (λ (v : UsedTruck). In k (departures i v) → counts (stacks_at_departure i p v k) ≡ true → kept i (truck_numbered i v.truck) (stacks_at_departure i p v k) ≡ true)
        (sym w.2) (at_stack w.0 k f) n c)),
  )
    where
      at_stack : (s : Stack) (k : ℕ) → KeptAt kept → In k (departures i (used_by s)) → counts (stacks_at_departure i p (used_by s) k) ≡ true
          → kept i (truck_of i s) (stacks_at_departure i p (used_by s) k) ≡ true
      at_stack s k f n c =
          let r = (counts_reads (stacks_at_departure i p (used_by s) k)).0 c in
          let h = (in_filter (on_at i s k) p r.0).0 (subst (λ (l : List Stack). In r.0 l) (on_at_lem i p s k) r.1) in
          let both = (and_reads (on_truck_of s r.0) (listed (IU (bottom i r.0)) (take k (truck_of i s).suppliers))).0 h.1 in
          let o = (one_truck s r.0).0 both.0 in
          let used : used_by r.0 ≡ used_by s = λ j. record { truck = sym o.truck j; copy = sym o.copy j } in
          let same : truck_of i r.0 ≡ truck_of i s = ap (truck_numbered i) (sym o.truck) in
          let d = (in_departures i (used_by s) k).0 n in
          let itself : on_at i r.0 k r.0 ≡ true =
          (and_reads (on_truck_of r.0 r.0) (listed (IU (bottom i r.0)) (take k (truck_of i r.0).suppliers))).1
          ((one_truck r.0 r.0).1 (record { truck = refl; copy = refl }), rw same both.1) in
          subst (λ (v : UsedTruck). kept i (truck_numbered i v.truck) (stacks_at_departure i p v k) ≡ true) used
          (f r.0 h.0 k d.0 (rw same d.1) itself)

  -- 27 middle and 28 rear
  pub levers_exactly : ((departure_places middle_axle_holds i p ≡ []) × (departure_places rear_axle_holds i p ≡ []))
      ↔ ((s : Stack) → In s p → (k : ℕ) → 1 ≤ k → k ≤ length (truck_of i s).suppliers → on_at i s k s ≡ true → AxleLoadsWithin i p s k (truck_of i s))
  levers_exactly = (
    (λ h s m k lo hi on.
        (bears_reads s k).0 ((departure_reads middle_axle_holds).0 h.0 s m k lo hi on, (departure_reads rear_axle_holds).0 h.1 s m k lo hi on)),
    (λ f. (
      (departure_reads middle_axle_holds).1 (λ s m k lo hi on. ((bears_reads s k).1 (f s m k lo hi on)).0),
      (departure_reads rear_axle_holds).1 (λ s m k lo hi on. ((bears_reads s k).1 (f s m k lo hi on)).1),
    )),
  )
