-- A plan in two parts that share no used truck: the places where a rule on used trucks is broken are those of the one part and those of the
-- other, and so are the used trucks.
use mathlib.Core.Path.{◌≡◌, refl, ap, ap₂, ◌∙◌}
use mathlib.Core.Bool.{Bool, false, not, ◌&&◌, ◌||◌, or-false}
use mathlib.Core.List.{List, [], ◌++◌, map, flat_map, append-nil, map-append}
use lib.Dec.{eqb}
use Rattle.meaning.specs.declared.Place.{Place}
use Rattle.meaning.specs.Lists.{any, filter, dedup, only_if, between, In}
use Rattle.meaning.specs.Places.{place}
use Rattle.meaning.specs.Model.{Instance, Truck, Stack, truck_numbered, number, x}
use Rattle.meaning.specs.Measures.{UsedTruck, used_by, same_used, used_trucks, stacks_on, another, departures, stacks_at_departure, supplier_order}
use Rattle.meaning.specs.Rules.{pair_places, stack_places, truck_places, departure_places, counts, braced, braced_by, no_amount}
use Rattle.meaning.proofs.Lists.{any_none, filter_none, any_append, filter_append, dedup_append, same_turned, in_map, flat_map_none, flat_map_append, flat_map_agree}
use Rattle.meaning.proofs.RuleKinds.{used_reads}
use Rattle.meaning.proofs.Levers.{in_used}
use Rattle.rules.specs.declared.TruckRule.{TruckRule}
use Rattle.rules.specs.declared.TruckRule.TheVariants.{Unbraced, Overload, Middle, Rear}
use Rattle.rules.specs.LoadingRules.{truck_rule_places}

-- ---- lists in two parts
module _ {A B : Type 0} where
  -- where each element has the same in a part as in the whole
  in_parts : (g h k : A → List B) (l l' : List A) → ((a : A) → In a l → g a ≡ h a) → ((a : A) → In a l' → g a ≡ k a)
      → flat_map g (l ++ l') ≡ flat_map h l ++ flat_map k l'
  in_parts g h k l l' e f = flat_map_append g l l' ∙ ap₂ ◌++◌ (flat_map_agree g h l e) (flat_map_agree g k l' f)

-- no used truck has stacks in both lists
abbrev pub Apart : List Stack → List Stack → Type 0
Apart l l' = (s r : Stack) → In s l → In r l' → same_used (used_by s) (used_by r) ≡ false

module _ (i : Instance) (l l' : List Stack) (apart : Apart l l') where
  turned : (r s : Stack) → In r l' → In s l → same_used (used_by r) (used_by s) ≡ false
  turned r s n m = same_turned same_used used_reads (used_by r) (used_by s) ∙ apart s r m n

  -- ---- pairs
  module _ (kept : Instance → Stack → Stack → Bool) where
    abbrev pair_place : Stack → Stack → List Place
    pair_place s r = only_if (another s r && not (kept i s r)) (place (number s) (number r) 0)

    no_pair : (s r : Stack) → same_used (used_by s) (used_by r) ≡ false → pair_place s r ≡ []
    no_pair s r e = rw e refl

    first_pairs : (s : Stack) → In s l → flat_map (pair_place s) (l ++ l') ≡ flat_map (pair_place s) l
    first_pairs s m =
        flat_map_append (pair_place s) l l' ∙ rw ((flat_map_none (pair_place s) l').1 (λ r n. no_pair s r (apart s r m n))) (append-nil (flat_map (pair_place s) l))

    second_pairs : (r : Stack) → In r l' → flat_map (pair_place r) (l ++ l') ≡ flat_map (pair_place r) l'
    second_pairs r n = flat_map_append (pair_place r) l l' ∙ rw ((flat_map_none (pair_place r) l).1 (λ s m. no_pair r s (turned r s n m))) refl

    pub pairs_apart : pair_places kept i (l ++ l') ≡ pair_places kept i l ++ pair_places kept i l'
    unfolding pair_places
    pairs_apart = in_parts _ _ _ l l' first_pairs second_pairs

  -- ---- 24: who braces a stack is on its used truck
  no_brace : (s r : Stack) → same_used (used_by s) (used_by r) ≡ false → braced_by i s r ≡ false
  no_brace s r e = rw e refl

  first_braced : (s : Stack) → In s l → braced i (l ++ l') s ≡ braced i l s
  first_braced s m =
      ap (λ b. eqb (x s) 0 || b)
      (any_append (braced_by i s) l l' ∙ rw (any_none (braced_by i s) l' (λ r n. no_brace s r (apart s r m n))) (or-false (any (braced_by i s) l)))

  second_braced : (r : Stack) → In r l' → braced i (l ++ l') r ≡ braced i l' r
  second_braced r n =
      ap (λ b. eqb (x r) 0 || b) (any_append (braced_by i r) l l' ∙ rw (any_none (braced_by i r) l (λ s m. no_brace r s (turned r s n m))) refl)

  unbraced_apart : stack_places braced no_amount i (l ++ l') ≡ stack_places braced no_amount i l ++ stack_places braced no_amount i l'
  unfolding stack_places
  unbraced_apart =
      in_parts _ _ _ l l' (λ s m. ap (λ b. only_if (not b) (place (number s) 0 0)) (first_braced s m))
      (λ r n. ap (λ b. only_if (not b) (place (number r) 0 0)) (second_braced r n))

  -- ---- used trucks
  pub used_apart : used_trucks (l ++ l') ≡ used_trucks l ++ used_trucks l'
  unfolding used_trucks
  used_apart =
      ap (dedup same_used) (map-append used_by l l') ∙ dedup_append same_used (map used_by l) (map used_by l') (λ u m.
      let w = (in_map used_by l u).0 m in
      any_none (same_used u) (map used_by l') (λ v n. let z = (in_map used_by l' v).0 n in rw (w.2, z.2) (apart w.0 z.0 w.1 z.1)))

  first_on : (u : UsedTruck) → In u (used_trucks l) → stacks_on (l ++ l') u ≡ stacks_on l u
  unfolding stacks_on
  first_on u m =
      let w = (in_used l u).0 m in
      let test : Stack → Bool = λ s. same_used u (used_by s) in
      filter_append test l l' ∙ rw (filter_none test l' (λ r n. rw w.2 (apart w.0 r w.1 n))) (append-nil (filter test l))

  second_on : (u : UsedTruck) → In u (used_trucks l') → stacks_on (l ++ l') u ≡ stacks_on l' u
  unfolding stacks_on
  second_on u n =
      let w = (in_used l' u).0 n in
      let test : Stack → Bool = λ s. same_used u (used_by s) in
      filter_append test l l' ∙ rw (filter_none test l (λ s m. rw w.2 (turned w.0 s w.1 m))) refl

  trucks_apart : (kept : Instance → Truck → List Stack → Bool) → truck_places kept i (l ++ l') ≡ truck_places kept i l ++ truck_places kept i l'
  unfolding truck_places
  trucks_apart kept =
      rw used_apart (in_parts _ _ _ (used_trucks l) (used_trucks l')
      (λ u m. ap (λ (on : List Stack). only_if (not (kept i (truck_numbered i u.truck) on)) (place u.truck u.copy 0)) (first_on u m))
      (λ u n. ap (λ (on : List Stack). only_if (not (kept i (truck_numbered i u.truck) on)) (place u.truck u.copy 0)) (second_on u n)))

  departures_apart : (kept : Instance → Truck → List Stack → Bool) → departure_places kept i (l ++ l') ≡ departure_places kept i l ++ departure_places kept i l'
  unfolding departure_places stacks_at_departure
  departures_apart kept =
      rw used_apart (in_parts _ _ _ (used_trucks l) (used_trucks l') (λ u m. ap (places u) (first_on u m)) (λ u n. ap (places u) (second_on u n)))
    where
      places : UsedTruck → List Stack → List Place
      places u all =
          flat_map (λ k.
          let on = filter (λ (s : Stack). between 1 k (supplier_order i s)) all in
          only_if (counts on && not (kept i (truck_numbered i u.truck) on)) (place u.truck u.copy k))
          (departures i u)

  -- ---- every rule on used trucks
  pub truck_rule_apart : (rule : TruckRule) → truck_rule_places rule i (l ++ l') ≡ truck_rule_places rule i l ++ truck_rule_places rule i l'
  truck_rule_apart Unbraced = unbraced_apart
  truck_rule_apart Overload = trucks_apart _
  truck_rule_apart Middle = departures_apart _
  truck_rule_apart Rear = departures_apart _
