-- The verdict on a plan does not depend on the order of its stacks. A rule's places need the same stacks only, in any order; sums and counts need a permutation.
use mathlib.Core.Path.{◌≡◌, refl, ap, ap₂, ◌∙◌}
use mathlib.Core.Bool.{Bool, not, ◌&&◌, ◌||◌}
use mathlib.Core.List.{List, [], ◌∷◌, ◌++◌, Permᴰ}
use Prim.Native.Nat.{ℕ}
use lib.Dec.{eqb}
use lib.IntN.{ℤ, pos, ◌+ℤ◌, ◌*ℤ◌}
use lib.ListN.{length}
use Rattle.meaning.specs.declared.Answer.{Answer}
use Rattle.meaning.specs.Lists.{only_if, up_from, between, Every}
use Rattle.meaning.specs.Places.{place}
use Rattle.meaning.specs.Model.{Instance, Truck, Stack, Item, truck_numbered, number, x, EM, EJcr}
use Rattle.meaning.specs.Measures.{UsedTruck, used_by, same_used, used_trucks, stacks_on, weight_on, departures, stacks_at_departure, supplier_order, sm, lever, H}
use Rattle.meaning.specs.Rules.{item_places, stack_places, pair_places, truck_places, departure_places, counts, times_loaded, not_once}
use Rattle.meaning.specs.Rules.{plant_matches, product_carried, supplier_visited, arrives_in_window, docks_served, stackable, plant_docks_allowed, plant_dock_count, single_pair, orientation_kept, top_weight_within, weight_above}
use Rattle.meaning.specs.Rules.{stackability_kept, item_count, density_within, inside, exceeded_side, disjoint, braced, braced_by, no_amount, in_loading_order, within_load_limit, middle_axle_holds, rear_axle_holds}
use Rattle.meaning.specs.Rules.{Rule, item_rules, stack_rules, placement_rules, weight_rules, loading_rules, rules}
use Rattle.meaning.specs.Verdict.{broken_or, first_broken, acceptance, cost, transport_cost, inventory_cost, verdict_on}
use Rattle.meaning.proofs.Tests.{same_test}
use Rattle.meaning.proofs.Lists.{◌&◌, every_append}
use Rattle.meaning.proofs.RuleKinds.{used_reads, counts_reads}
use Rattle.meaning.proofs.Permute.{Same, same_refl, perm_same, any_perm, length_perm, sum_perm, sumℤ_perm, map_perm, filter_perm, dedup_perm}
use Rattle.meaning.proofs.Permute.{flat_map_same, flat_map_equal}
use Rattle.meaning.proofs.Lowest.{lowest_same}

-- ---- what the rules measure, in another order
counts_perm : (on on' : List Stack) → Permᴰ on on' → counts on ≡ counts on'
counts_perm on on' h =
    let s = perm_same h in
    same_test (counts on) (counts on') (
      (λ e. let w = (counts_reads on).0 e in (counts_reads on').1 (w.0, s.0 w.0 w.1)),
      (λ e. let w = (counts_reads on').0 e in (counts_reads on).1 (w.0, s.1 w.0 w.1)),
    )

module _ (i : Instance) where
  weight_on_perm : (on on' : List Stack) → Permᴰ on on' → weight_on i on ≡ weight_on i on'
  unfolding weight_on
  weight_on_perm on on' h = sum_perm (sm i) h

  H_perm : (t : Truck) (on on' : List Stack) → Permᴰ on on' → H i t on ≡ H i t on'
  unfolding H
  H_perm t on on' h = ap (λ (z : ℤ). z +ℤ pos 2 *ℤ pos (EM t) *ℤ pos (EJcr t)) (sumℤ_perm (lever i t) h)

  -- a test on the stacks of a truck that has one answer for all their orders
  abbrev pub Unordered : (Instance → Truck → List Stack → Bool) → Type 0
  Unordered kept = (t : Truck) (on on' : List Stack) → Permᴰ on on' → kept i t on ≡ kept i t on'

  pub load_fits_perm : Unordered within_load_limit
  unfolding within_load_limit
  load_fits_perm t on on' h = rw (weight_on_perm on on' h)

  pub middle_fits_perm : Unordered middle_axle_holds
  unfolding middle_axle_holds
  middle_fits_perm t on on' h = rw (H_perm t on on' h)

  pub rear_fits_perm : Unordered rear_axle_holds
  unfolding rear_axle_holds
  rear_fits_perm t on on' h = rw (H_perm t on on' h, weight_on_perm on on' h)

module _ (i : Instance) (p p' : List Stack) (h : Permᴰ p p') where
  pub used_trucks_perm : Permᴰ (used_trucks p) (used_trucks p')
  unfolding used_trucks
  used_trucks_perm = dedup_perm same_used used_reads (map_perm used_by h)

  stacks_on_perm : (u : UsedTruck) → Permᴰ (stacks_on p u) (stacks_on p' u)
  unfolding stacks_on
  stacks_on_perm u = filter_perm (λ (s : Stack). same_used u (used_by s)) h

  stacks_at_departure_perm : (u : UsedTruck) (k : ℕ) → Permᴰ (stacks_at_departure i p u k) (stacks_at_departure i p' u k)
  unfolding stacks_at_departure
  stacks_at_departure_perm u k = filter_perm (λ (s : Stack). between 1 k (supplier_order i s)) (stacks_on_perm u)

  times_loaded_perm : (n : ℕ) → times_loaded p n ≡ times_loaded p' n
  unfolding times_loaded
  times_loaded_perm n = sum_perm _ h

  -- the test of rule 24 looks at the whole plan
  pub braced_perm : (s : Stack) → braced i p s ≡ braced i p' s
  braced_perm s = ap (λ b. eqb (x s) 0 || b) (any_perm (braced_by i s) h)

  cost_perm : cost i p ≡ cost i p'
  unfolding cost
  cost_perm = rw (sum_perm (transport_cost i) used_trucks_perm, sum_perm (inventory_cost i) h)

  -- ---- the places of each kind of rule
  item_places_same : (kept : Instance → Stack → Item → Bool) → Same (item_places kept i p) (item_places kept i p')
  unfolding item_places
  item_places_same kept = flat_map_equal _ _ p p' (perm_same h) (λ s. refl)

  pub stack_places_same : (kept : Instance → List Stack → Stack → Bool) (amount : Instance → Stack → ℕ) → ((s : Stack) → kept i p s ≡ kept i p' s)
      → Same (stack_places kept amount i p) (stack_places kept amount i p')
  unfolding stack_places
  stack_places_same kept amount k = flat_map_equal _ _ p p' (perm_same h) (λ s. ap (λ b. only_if (not b) (place (number s) (amount i s) 0)) (k s))

  pub pair_places_same : (kept : Instance → Stack → Stack → Bool) → Same (pair_places kept i p) (pair_places kept i p')
  unfolding pair_places
  pair_places_same kept = flat_map_same _ _ p p' (perm_same h) (λ s. flat_map_equal _ _ p p' (perm_same h) (λ r. refl))

  pub truck_places_same : (kept : Instance → Truck → List Stack → Bool) → Unordered i kept → Same (truck_places kept i p) (truck_places kept i p')
  unfolding truck_places
  truck_places_same kept k =
      flat_map_equal _ _ (used_trucks p) (used_trucks p') (perm_same used_trucks_perm) (λ u.
      ap (λ b. only_if (not b) (place u.truck u.copy 0)) (k (truck_numbered i u.truck) _ _ (stacks_on_perm u)))

  pub departure_places_same : (kept : Instance → Truck → List Stack → Bool) → Unordered i kept → Same (departure_places kept i p) (departure_places kept i p')
  unfolding departure_places
  departure_places_same kept k =
      flat_map_same _ _ (used_trucks p) (used_trucks p') (perm_same used_trucks_perm) (λ u.
      flat_map_equal _ _ (departures i u) (departures i u) (same_refl (departures i u)) (λ n.
      let on = stacks_at_departure_perm u n in
      ap₂ (λ b c. only_if (b && not c) (place u.truck u.copy n)) (counts_perm _ _ on) (k (truck_numbered i u.truck) _ _ on)))

  not_once_same : Same (not_once i p) (not_once i p')
  unfolding not_once
  not_once_same =
      let numbers = up_from 1 (length i.items) in
      flat_map_equal _ _ numbers numbers (same_refl numbers) (λ n. ap (λ t. only_if (not (eqb t 1)) (place n t 0)) (times_loaded_perm n))

  -- ---- all rules
  abbrev SamePlaces : Rule → Type 0
  SamePlaces r = Same (r.places i p) (r.places i p')

  item_rules_same : Every SamePlaces item_rules
  unfolding item_rules
  item_rules_same =
      item_places_same plant_matches
      & item_places_same product_carried
      & item_places_same supplier_visited
      & item_places_same arrives_in_window
      & item_places_same docks_served
      & tt

  stack_rules_same : Every SamePlaces stack_rules
  unfolding stack_rules
  stack_rules_same =
      item_places_same stackable
      & stack_places_same plant_docks_allowed plant_dock_count (λ s. refl)
      & pair_places_same single_pair
      & item_places_same orientation_kept
      & stack_places_same top_weight_within weight_above (λ s. refl)
      & stack_places_same stackability_kept item_count (λ s. refl)
      & stack_places_same density_within sm (λ s. refl)
      & tt

  placement_rules_same : Every SamePlaces placement_rules
  unfolding placement_rules
  placement_rules_same =
      stack_places_same inside exceeded_side (λ s. refl)
      & pair_places_same disjoint
      & stack_places_same braced no_amount braced_perm
      & pair_places_same in_loading_order
      & tt

  weight_rules_same : Every SamePlaces weight_rules
  unfolding weight_rules
  weight_rules_same =
      truck_places_same within_load_limit (load_fits_perm i)
      & departure_places_same middle_axle_holds (middle_fits_perm i)
      & departure_places_same rear_axle_holds (rear_fits_perm i)
      & tt

  rules_same : Every SamePlaces rules
  unfolding rules loading_rules
  rules_same =
      let fromPlacement = (every_append SamePlaces placement_rules weight_rules).1 (placement_rules_same, weight_rules_same) in
      let from_stacks = (every_append SamePlaces stack_rules (placement_rules ++ weight_rules)).1 (stack_rules_same, fromPlacement) in
      not_once_same & (every_append SamePlaces item_rules (stack_rules ++ (placement_rules ++ weight_rules))).1 (item_rules_same, from_stacks)

  first_broken_same : (rs : List Rule) (a : Answer) → Every SamePlaces rs → first_broken rs i p a ≡ first_broken rs i p' a
  unfolding first_broken
  first_broken_same [] a k = refl
  first_broken_same (r ∷ rs) a k = ap₂ (broken_or r.verdict) (lowest_same (r.places i p) (r.places i p') k.0) (first_broken_same rs a k.1)

-- the same verdict in every order, with its place, its cost and its number of used trucks
pub verdict_perm : (i : Instance) (p p' : List Stack) → Permᴰ p p' → verdict_on i p ≡ verdict_on i p'
unfolding verdict_on
verdict_perm i p p' h =
    first_broken_same i p p' h rules (acceptance (cost i p) (length (used_trucks p))) (rules_same i p p' h)
    ∙ ap (first_broken rules i p') (ap₂ acceptance (cost_perm i p p' h) (length_perm (used_trucks_perm i p p' h)))
