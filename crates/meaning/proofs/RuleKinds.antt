-- What it says of a plan that a rule lists no place: one law for each kind of rule. And a rule of a list, by its number.
use mathlib.Core.Path.{◌≡◌, refl, sym, ap}
use mathlib.Core.Logic.{inl, ◌↔◌}
use mathlib.Core.Bool.{Bool, true, false, cond, not}
use mathlib.Core.List.{List, [], ◌∷◌}
use Prim.Native.Nat.{ℕ}
use borrow.Author.Tests.{eqb-true, eq-eqb}
use lib.Dec.{eqb}
use Rattle.meaning.specs.declared.Place.{Place}
use Rattle.meaning.specs.Lists.{In, Every}
use Rattle.meaning.specs.Model.{Instance, Truck, Stack, Item, item, truck_numbered, number, truck, copy}
use Rattle.meaning.specs.Measures.{UsedTruck, same_used, another, used_trucks, stacks_on, departures, stacks_at_departure}
use Rattle.meaning.specs.Rules.{Rule, item_places, stack_places, pair_places, truck_places, departure_places, counts}
use Rattle.meaning.specs.Claims.{KeptBy}
use Rattle.meaning.specs.Feasible.{SameTruck, on_truck_of}
use Rattle.meaning.proofs.Tests.{true≢false, and_reads, not_reads, eq_reads, iff_trans, iff_both}
use Rattle.meaning.proofs.Lists.{flat_map_none, unless_none, among_none}

-- ---- stacks of one used truck
pub used_reads : (u v : UsedTruck) → (same_used u v ≡ true) ↔ (u ≡ v)
used_reads u v =
    iff_trans (and_reads (eqb u.truck v.truck) (eqb u.copy v.copy))
    (iff_trans (iff_both (eq_reads u.truck v.truck) (eq_reads u.copy v.copy)) (
      (λ h j. record { truck = h.0 j; copy = h.1 j }),
      (λ e. (ap (λ (w : UsedTruck). w.truck) e, ap (λ (w : UsedTruck). w.copy) e)),
    ))

pub one_truck : (s r : Stack) → (on_truck_of s r ≡ true) ↔ SameTruck s r
one_truck s r = (
  (λ e. let k = (and_reads (eqb (truck s) (truck r)) (eqb (copy s) (copy r))).0 e in record { truck = eqb-true _ _ k.0; copy = eqb-true _ _ k.1 }),
  (λ h. (and_reads (eqb (truck s) (truck r)) (eqb (copy s) (copy r))).1 (eq-eqb _ _ h.truck, eq-eqb _ _ h.copy)),
)

pub another_reads : (s r : Stack) → (another s r ≡ true) ↔ (SameTruck s r × (number s ≡ number r → ⊥))
another_reads s r = (
  (λ e.
      let k = (and_reads (on_truck_of s r) (not (eqb (number s) (number r)))).0 e in
      ((one_truck s r).0 k.0, λ q. (not_reads (eqb (number s) (number r))).0 k.1 (eq-eqb _ _ q))),
  (λ h.
      (and_reads (on_truck_of s r) (not (eqb (number s) (number r)))).1
      ((one_truck s r).1 h.0, (not_reads (eqb (number s) (number r))).1 (λ e. h.1 (eqb-true _ _ e)))),
)

-- a departure counts where a stack is on
pub counts_reads : (on : List Stack) → (counts on ≡ true) ↔ ((s : Stack) × In s on)
counts_reads [] = ((λ e. absurd (true≢false (sym e))), (λ w. absurd w.1))
counts_reads (s ∷ on) = ((λ e. (s, inl refl)), (λ w. refl))

-- ---- a rule by its number
-- the places of the rule that has the number v; none where no rule has it
abbrev pub places_of : List Rule → ℕ → Instance → List Stack → List Place
places_of [] v i p = []
places_of (r ∷ rs) v i p = cond (eqb v r.verdict) (r.places i p) (places_of rs v i p)

-- where all rules of a list are kept, so is the one of each number, wherever it stands
pub kept_rule : (i : Instance) (p : List Stack) (rs : List Rule) → Every (KeptBy i p) rs → (v : ℕ) → places_of rs v i p ≡ []
kept_rule i p [] h v = refl
kept_rule i p (r ∷ rs) h v = either (eqb v r.verdict) h.0 (kept_rule i p rs h.1 v)
  where
    either : (t : Bool) {l l' : List Place} → l ≡ [] → l' ≡ [] → cond t l l' ≡ []
    either true e e' = e
    either false e e' = e'

-- ---- the kinds of rules
module _ (i : Instance) (p : List Stack) where
  pub items_kept : (kept : Instance → Stack → Item → Bool)
      → (item_places kept i p ≡ []) ↔ ((s : Stack) → In s p → (n : ℕ) → In n s.load → kept i s (item i n) ≡ true)
  unfolding item_places
  items_kept kept = (
    (λ e s m n k. (unless_none (kept i s (item i n)) _).0 ((flat_map_none _ s.load).0 ((flat_map_none _ p).0 e s m) n k)),
    (λ f. (flat_map_none _ p).1 (λ s m. (flat_map_none _ s.load).1 (λ n k. (unless_none (kept i s (item i n)) _).1 (f s m n k)))),
  )

  pub stacks_kept : (kept : Instance → List Stack → Stack → Bool) (amount : Instance → Stack → ℕ)
      → (stack_places kept amount i p ≡ []) ↔ ((s : Stack) → In s p → kept i p s ≡ true)
  unfolding stack_places
  stacks_kept kept amount = (
    (λ e s m. (unless_none (kept i p s) _).0 ((flat_map_none _ p).0 e s m)),
    (λ f. (flat_map_none _ p).1 (λ s m. (unless_none (kept i p s) _).1 (f s m))),
  )

  pub pairs_kept : (kept : Instance → Stack → Stack → Bool)
      → (pair_places kept i p ≡ []) ↔ ((s r : Stack) → In s p → In r p → SameTruck s r → (number s ≡ number r → ⊥) → kept i s r ≡ true)
  unfolding pair_places
  pairs_kept kept = (
    (λ e s r m n o d. (among_none (another s r) (kept i s r) _).0 ((flat_map_none _ p).0 ((flat_map_none _ p).0 e s m) r n) ((another_reads s r).1 (o, d))),
    (λ f. (flat_map_none _ p).1 (λ s m. (flat_map_none _ p).1 (λ r n. (among_none (another s r) (kept i s r) _).1 (λ e. let h = (another_reads s r).0 e in f s r m n h.0 h.1)))),
  )

  pub trucks_kept : (kept : Instance → Truck → List Stack → Bool)
      → (truck_places kept i p ≡ []) ↔ ((u : UsedTruck) → In u (used_trucks p) → kept i (truck_numbered i u.truck) (stacks_on p u) ≡ true)
  unfolding truck_places
  trucks_kept kept = (
    (λ e u m. (unless_none (kept i (truck_numbered i u.truck) (stacks_on p u)) _).0 ((flat_map_none _ (used_trucks p)).0 e u m)),
    (λ f. (flat_map_none _ (used_trucks p)).1 (λ u m. (unless_none (kept i (truck_numbered i u.truck) (stacks_on p u)) _).1 (f u m))),
  )

  pub departures_kept : (kept : Instance → Truck → List Stack → Bool)
      → (departure_places kept i p ≡ [])
      ↔ ((u : UsedTruck) → In u (used_trucks p) → (k : ℕ) → In k (departures i u) → counts (stacks_at_departure i p u k) ≡ true
      → kept i (truck_numbered i u.truck) (stacks_at_departure i p u k) ≡ true)
  unfolding departure_places
  departures_kept kept = (
    (λ e u m k n.
        (among_none (counts (stacks_at_departure i p u k)) (kept i (truck_numbered i u.truck) (stacks_at_departure i p u k)) _).0
        ((flat_map_none _ (departures i u)).0 ((flat_map_none _ (used_trucks p)).0 e u m) k n)),
    (λ f. (flat_map_none _ (used_trucks p)).1 (λ u m. (flat_map_none _ (departures i u)).1 (λ k n.
        (among_none (counts (stacks_at_departure i p u k)) (kept i (truck_numbered i u.truck) (stacks_at_departure i p u k)) _).1 (f u m k n)))),
  )
