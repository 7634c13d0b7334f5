-- What the used trucks answer, from the last of the manifest to the first: what is found so far is right of their stacks, in the end of the whole plan.
use mathlib.Core.Path.{◌≡◌, refl, sym, ap, ap₂, ◌∙◌}
use mathlib.Core.Logic.{◌↔◌, inl}
use mathlib.Core.Bool.{Bool, true, ◌&&◌}
use mathlib.Core.List.{List, [], ◌∷◌, ◌++◌, Permᴰ}
use Prim.Native.Nat.{ℕ, ◌+◌, ◌≤◌}
use native.Mathlib.Omega.{arith}
use lib.ListN.{length, drop, drop_of_length-le}
use Rattle.std.specs.Prelude.{Option, None}
use Rattle.meaning.specs.declared.Place.{Place}
use Rattle.meaning.specs.declared.Limits.{Limits}
use Rattle.meaning.specs.Model.{Instance, Stack}
use Rattle.meaning.specs.Table.{instance_in, stacks_in}
use Rattle.meaning.specs.Rules.{pair_places, single_pair, stack_places, truck_places, departure_places, braced, no_amount, within_load_limit, middle_axle_holds, rear_axle_holds}
use Rattle.meaning.specs.Measures.{used_by}
use Rattle.meaning.specs.Verdict.{transport_cost}
use Rattle.meaning.proofs.Tests.{and_reads}
use Rattle.meaning.proofs.Lists.{append_none}
use Rattle.meaning.proofs.Permute.{Same}
use Rattle.meaning.proofs.VerdictOrder.{load_fits_perm, middle_fits_perm, rear_fits_perm, braced_perm, pair_places_same, stack_places_same}
use Rattle.meaning.proofs.VerdictOrder.{truck_places_same, departure_places_same}
use Rattle.search.specs.Lowest.{lowest_in, lower_found}
use Rattle.search.proofs.Lowest.{lowest_none, lowest_append, lowest_members}
use Rattle.rules.specs.declared.Rule.{Rule}
use Rattle.rules.specs.declared.Rule.TheVariants.{OfStacks, OfPairs, OfTrucks}
use Rattle.rules.specs.declared.PairRule.{PairRule}
use Rattle.rules.specs.declared.PairRule.TheVariants.{SecondPair, Overlap, Order}
use Rattle.rules.specs.declared.TruckRule.{TruckRule}
use Rattle.rules.specs.declared.TruckRule.TheVariants.{Unbraced, Overload, Middle, Rear}
use Rattle.rules.specs.LoadingRules.{pair_test, truck_rule_places}
use Rattle.table.specs.Filled.{Filled}
use Rattle.manifest.specs.Manifest.{manifest_at, in_manifest, block, HoldsRows, OneTruck, Parted, RunBefore}
use Rattle.manifest.specs.declared.row.Row.{Row}
use Rattle.manifest.proofs.Reading.{run_before}
use Rattle.manifest.proofs.Order.{manifest_length, manifest_perm}
use Rattle.manifest.proofs.UsedTrucks.{block_split, block_apart}
use Rattle.judging.specs.declared.Findings.{Findings}
use Rattle.placement.specs.Placed.{PlacedStacks}
use Rattle.axles.specs.Weights.{LowestPlaces}
use Rattle.judging.specs.declared.Asked.{Asked}
use Rattle.judging.specs.Judging.{is_asked, Beforehand, Tells, joined, no_findings, TellsAsked, CountsTrucks}
use Rattle.judging.proofs.Cost.{Counted, counted_start, counted_more, counted_end}
use Rattle.judging.proofs.Apart.{Apart, pairs_apart, truck_rule_apart}

-- ---- a rule whose places are those of the used trucks, whatever the order of the stacks
pub record ByTruck (places : Instance → List Stack → List Place) (i : Instance) : Type 0 where
  pub none : places i [] ≡ []
  pub apart : (l l' : List Stack) → Apart l l' → places i (l ++ l') ≡ places i l ++ places i l'
  pub same : (p p' : List Stack) → Permᴰ p p' → Same (places i p) (places i p')

pairs_by_truck : (rule : PairRule) (i : Instance) → ByTruck (pair_places (pair_test rule)) i
unfolding pair_places
pairs_by_truck rule i =
    record {
      none = refl;
      apart = λ l l' a. pairs_apart i l l' a (pair_test rule);
      same = λ p p' h. pair_places_same i p p' h (pair_test rule);
    }

trucks_by_truck : (rule : TruckRule) (i : Instance) → ByTruck (truck_rule_places rule) i
unfolding stack_places truck_places departure_places
trucks_by_truck rule i = record { none = empty rule; apart = λ l l' a. truck_rule_apart i l l' a rule; same = same rule }
  where
    empty : (rule : TruckRule) → truck_rule_places rule i [] ≡ []
    empty Unbraced = refl
    empty Overload = refl
    empty Middle = refl
    empty Rear = refl

    same : (rule : TruckRule) (p p' : List Stack) → Permᴰ p p' → Same (truck_rule_places rule i p) (truck_rule_places rule i p')
    same Unbraced p p' h = stack_places_same i p p' h braced no_amount (braced_perm i p p' h)
    same Overload p p' h = truck_places_same i p p' h within_load_limit (load_fits_perm i)
    same Middle p p' h = departure_places_same i p p' h middle_axle_holds (middle_fits_perm i)
    same Rear p p' h = departure_places_same i p p' h rear_axle_holds (rear_fits_perm i)

-- a list with the members of an empty one is empty
none_same : (l l' : List Place) → Same l l' → l' ≡ [] → l ≡ []
none_same [] l' s e = refl
none_same (a ∷ l) l' s e = absurd (rw e at (s.0 a (inl refl)))

-- ---- one such rule, from the last used truck to the first
module _ {places : Instance → List Stack → List Place} {i : Instance} (by : ByTruck places i) (p : List Stack) where
  -- behind the last stack it has no place
  none_behind : {end : ℕ} → end ≡ length p → places i (drop end (in_manifest p)) ≡ []
  none_behind {end} e =
      let past : length (in_manifest p) ≤ end = omega (arith, manifest_length p) in
      rw (drop_of_length-le (in_manifest p) past) by.none

  -- the places on a used truck, and those behind it
  split : {start end : ℕ} → OneTruck p start end → Parted p end
      → places i (drop start (in_manifest p)) ≡ places i (block p start end) ++ places i (drop end (in_manifest p))
  split {start} {end} one parted =
      ap (places i) (block_split p start end (omega (arith, one.some)))
      ∙ by.apart (block p start end) (drop end (in_manifest p)) (block_apart one parted)

  -- a yes/no
  yes_start : {end : ℕ} → end ≡ length p → (true ≡ true) ↔ (places i (drop end (in_manifest p)) ≡ [])
  yes_start e = ((λ t. none_behind e), (λ n. refl))

  yes_more : {start end : ℕ} (a b : Bool) → OneTruck p start end → Parted p end → (a ≡ true) ↔ (places i (block p start end) ≡ [])
      → (b ≡ true) ↔ (places i (drop end (in_manifest p)) ≡ []) → ((a && b) ≡ true) ↔ (places i (drop start (in_manifest p)) ≡ [])
  yes_more {start} {end} a b one parted ha hb =
      let both = and_reads a b in
      let none = append_none (places i (block p start end)) (places i (drop end (in_manifest p))) in (
        (λ e. let t = both.0 e in split one parted ∙ none.1 (ha.0 t.0, hb.0 t.1)),
        (λ e. let n = none.0 (sym (split one parted) ∙ e) in both.1 (ha.1 n.0, hb.1 n.1)),
      )

  yes_all : (kept : Bool) → (kept ≡ true) ↔ (places i (in_manifest p) ≡ []) → (kept ≡ true) ↔ (places i p ≡ [])
  yes_all kept h =
      let s = by.same p (in_manifest p) (manifest_perm p) in
      ((λ e. none_same (places i p) (places i (in_manifest p)) s (h.0 e)), (λ e. h.1 (none_same (places i (in_manifest p)) (places i p) (s.1, s.0) e)))

  -- the lowest place
  found_start : {end : ℕ} → end ≡ length p → None ≡ lowest_in (places i (drop end (in_manifest p)))
  found_start e = rw (none_behind e) (sym lowest_none)

  found_more : {start end : ℕ} {a b : Option Place} → OneTruck p start end → Parted p end → a ≡ lowest_in (places i (block p start end))
      → b ≡ lowest_in (places i (drop end (in_manifest p))) → lower_found a b ≡ lowest_in (places i (drop start (in_manifest p)))
  found_more {start} {end} one parted ea eb =
      ap₂ lower_found ea eb ∙ sym (lowest_append (places i (block p start end)) (places i (drop end (in_manifest p)))) ∙ sym (ap lowest_in (split one parted))

  found_all : {a : Option Place} → a ≡ lowest_in (places i (in_manifest p)) → a ≡ lowest_in (places i p)
  found_all e = e ∙ sym (lowest_members (places i p) (places i (in_manifest p)) (by.same p (in_manifest p) (manifest_perm p)))

-- ---- every rule that the used trucks are asked
module _ (i : Instance) (p : List Stack) where
  tells_start : (rule : Rule) {end : ℕ} → end ≡ length p → Tells rule i (drop end (in_manifest p)) no_findings
  tells_start (OfStacks rule) e = tt
  tells_start (OfPairs SecondPair) e = yes_start (pairs_by_truck SecondPair i) p e
  tells_start (OfPairs Overlap) e = yes_start (pairs_by_truck Overlap i) p e
  tells_start (OfPairs Order) e = yes_start (pairs_by_truck Order i) p e
  tells_start (OfTrucks Unbraced) e = found_start (trucks_by_truck Unbraced i) p e
  tells_start (OfTrucks Overload) e = found_start (trucks_by_truck Overload i) p e
  tells_start (OfTrucks Middle) e = found_start (trucks_by_truck Middle i) p e
  tells_start (OfTrucks Rear) e = found_start (trucks_by_truck Rear i) p e

  -- one used truck more
  tells_more : (rule : Rule) {start end : ℕ} (a b : Findings) → OneTruck p start end → Parted p end → Tells rule i (block p start end) a
      → Tells rule i (drop end (in_manifest p)) b → Tells rule i (drop start (in_manifest p)) (joined a b)
  tells_more (OfStacks rule) a b one parted ha hb = tt
  tells_more (OfPairs SecondPair) a b one parted ha hb = yes_more (pairs_by_truck SecondPair i) p _ _ one parted ha hb
  tells_more (OfPairs Overlap) a b one parted ha hb = yes_more (pairs_by_truck Overlap i) p _ _ one parted ha hb
  tells_more (OfPairs Order) a b one parted ha hb = yes_more (pairs_by_truck Order i) p _ _ one parted ha hb
  tells_more (OfTrucks Unbraced) a b one parted ha hb = found_more (trucks_by_truck Unbraced i) p one parted ha hb
  tells_more (OfTrucks Overload) a b one parted ha hb = found_more (trucks_by_truck Overload i) p one parted ha hb
  tells_more (OfTrucks Middle) a b one parted ha hb = found_more (trucks_by_truck Middle i) p one parted ha hb
  tells_more (OfTrucks Rear) a b one parted ha hb = found_more (trucks_by_truck Rear i) p one parted ha hb

  -- of the whole plan
  tells_all : (rule : Rule) (f : Findings) → Tells rule i (in_manifest p) f → Tells rule i p f
  tells_all (OfStacks rule) f h = tt
  tells_all (OfPairs rule) f h = yes_all (pairs_by_truck rule i) p _ h
  tells_all (OfTrucks rule) f h = found_all (trucks_by_truck rule i) p h

-- what was needed beforehand of all was needed of each
beforehand_joined : (rule : Rule) (a b : Findings) → Beforehand rule (joined a b) → Beforehand rule a × Beforehand rule b
beforehand_joined (OfStacks rule) a b h = (tt, tt)
beforehand_joined (OfPairs SecondPair) a b h = (tt, tt)
beforehand_joined (OfPairs Overlap) a b h = (tt, tt)
beforehand_joined (OfPairs Order) a b h = (and_reads a.placement.apart b.placement.apart).0 h
beforehand_joined (OfTrucks rule) a b h = (tt, tt)

-- ---- the loop over the used trucks
-- the answers so far are right of the stacks from `end` on
pub record Told (asked : Asked) (i : Instance) (p : List Stack) (end : ℕ) (f : Findings) (count cost : ℕ) : Type 0 where
  pub each : (rule : Rule) → is_asked asked rule ≡ true → Beforehand rule f → Tells rule i (drop end (in_manifest p)) f
  pub counted : Counted i p end count cost

module _ {asked : Asked} {i : Instance} {p : List Stack} where
  pub told_start : {end : ℕ} → end ≡ length p → Told asked i p end no_findings 0 0
  told_start e = record { each = λ rule a w. tells_start i p rule e; counted = counted_start e }

  -- one used truck more
  told_more : {start end count cost count' cost' : ℕ} (a b : Findings) → Told asked i p end b count cost → OneTruck p start end × Parted p start
      → TellsAsked asked i (block p start end) a
      → (count' ≡ count + 1) × (cost' ≡ transport_cost i (used_by (manifest_at p start)) + cost) × (cost' ≤ cost + 2000000000)
      → Told asked i p start (joined a b) count' cost'
  told_more a b h one here paid =
      record {
        each = λ rule q w.
            let both = beforehand_joined rule a b w in
            tells_more i p rule a b one.0 h.counted.parted (here.each rule q both.0) (h.each rule q both.1);
        counted = counted_more h.counted one.0 one.1 paid;
      }

  pub told_end : {end count cost : ℕ} {f : Findings} → Told asked i p end f count cost → end ≤ 0 → length p ≤ 2097152
      → TellsAsked asked i p f × CountsTrucks i p count cost
  told_end {end} {f = f} h none few =
      let e : end ≡ 0 = omega arith in
      (record { each = λ rule a w. tells_all i p rule f (rw e at (h.each rule a w)) }, counted_end h.counted none few)

-- ---- the answers of one used truck, rule by rule
pub truck_told : {asked : Asked} (i : Instance) (p : List Stack) (f : Findings)
    → (asked.single_pair ≡ true → (f.single_pair ≡ true) ↔ (pair_places single_pair i p ≡ []))
    → (asked.placement ≡ true → PlacedStacks i p f.placement) → (asked.weights ≡ true → LowestPlaces i p f.weights)
    → TellsAsked asked i p f
truck_told {asked} i p f s q w = record { each = told }
  where
    told : (rule : Rule) → is_asked asked rule ≡ true → Beforehand rule f → Tells rule i p f
    told (OfStacks rule) e n = tt
    told (OfPairs SecondPair) e n = s e
    told (OfPairs Overlap) e n = (q e).apart
    told (OfPairs Order) e n = (q e).ordered n
    told (OfTrucks Unbraced) e n = (q e).unbraced
    told (OfTrucks Overload) e n = (w e).overload
    told (OfTrucks Middle) e n = (w e).middle
    told (OfTrucks Rear) e n = (w e).rear

-- ---- what the walk leans on
-- the used truck before `end`, and the walk with it
module _ {m : Limits} {t : List ℕ} {rows : List Row} (held : HoldsRows m t rows) {asked : Asked} {f : Findings} {start end count cost : ℕ}
    (h : Told asked (instance_in m t) (stacks_in m t) end f count cost) (run : RunBefore rows start end) where
  one_truck : OneTruck (stacks_in m t) start end × Parted (stacks_in m t) start
  one_truck = run_before held (omega (arith, h.counted.within)) run

  pub truck_before : OneTruck (stacks_in m t) start end
  truck_before = one_truck.0

  pub walk_more : (here : Findings) {count' cost' : ℕ} → TellsAsked asked (instance_in m t) (block (stacks_in m t) start end) here
      → (count' ≡ count + 1) × (cost' ≡ transport_cost (instance_in m t) (used_by (manifest_at (stacks_in m t) start)) + cost) × (cost' ≤ cost + 2000000000)
      → Told asked (instance_in m t) (stacks_in m t) start (joined here f) count' cost'
  walk_more here tells paid = told_more here f h one_truck tells paid

-- each stack takes eight words of the table
pub few_stacks : {m : Limits} {t : List ℕ} → Filled m t → length (stacks_in m t) ≤ 2097152
few_stacks h = omega (arith, h.bounded.words, h.range.stack_count)
