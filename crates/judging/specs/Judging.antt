-- What is asked of the used trucks and what they answer, rule by rule.
use Rattle.std.specs.Prelude.{◌≡◌, ◌↔◌, ◌⊎◌, Bool, true, false, ◌&&◌, Option, Some, None, unwrap_or, List, [], ℕ, ◌≤◌, ◌<◌, length}
use Rattle.meaning.specs.declared.Place.{Place}
use Rattle.meaning.specs.Lists.{sum}
use Rattle.meaning.specs.Places.{place}
use Rattle.meaning.specs.Model.{Instance, Stack}
use Rattle.meaning.specs.Measures.{used_trucks}
use Rattle.meaning.specs.Verdict.{transport_cost}
use Rattle.search.specs.Lowest.{lowest_in, lower_found}
use Rattle.rules.specs.declared.Rule.{Rule}
use Rattle.rules.specs.declared.Rule.TheVariants.{OfStacks, OfPairs, OfTrucks}
use Rattle.rules.specs.declared.PairRule.{PairRule}
use Rattle.rules.specs.declared.PairRule.TheVariants.{SecondPair, Overlap, Order}
use Rattle.rules.specs.declared.TruckRule.{TruckRule}
use Rattle.rules.specs.declared.TruckRule.TheVariants.{Unbraced, Overload, Middle, Rear}
use Rattle.rules.specs.LoadingRules.{rule_places, on_stack, rule_count, rule_at, KeptBelow}
use Rattle.placement.specs.declared.Placement.{Placement}
use Rattle.axles.specs.declared.WeightPlaces.{WeightPlaces}
use Rattle.stackrules.specs.declared.Breach.{Breach}
use Rattle.judging.specs.declared.Asked.{Asked}
use Rattle.judging.specs.declared.Findings.{Findings}
use Rattle.judging.specs.declared.Survey.{Survey}

-- ---- what is asked
-- whether a rule is asked of the used trucks; a rule on single stacks is not
abbrev pub is_asked : Asked → Rule → Bool
is_asked asked (OfStacks rule) = false
is_asked asked (OfPairs SecondPair) = asked.single_pair
is_asked asked (OfPairs Overlap) = asked.placement
is_asked asked (OfPairs Order) = asked.placement
is_asked asked (OfTrucks Unbraced) = asked.placement
is_asked asked (OfTrucks Overload) = asked.weights
is_asked asked (OfTrucks Middle) = asked.weights
is_asked asked (OfTrucks Rear) = asked.weights

-- all kinds
abbrev pub everything : Asked
everything = record { single_pair = true; placement = true; weights = true }

-- what is asked, with one kind more
abbrev pub with_placement : Asked → Asked
with_placement asked = record { single_pair = asked.single_pair; placement = true; weights = asked.weights }

-- the same for the weight rules
abbrev pub with_weights : Asked → Asked
with_weights asked = record { single_pair = asked.single_pair; placement = asked.placement; weights = true }

-- with the kind of one rule on pairs more
abbrev pub with_pair_rule : Asked → PairRule → Asked
with_pair_rule asked SecondPair = record { single_pair = true; placement = asked.placement; weights = asked.weights }
with_pair_rule asked Overlap = with_placement asked
with_pair_rule asked Order = with_placement asked

-- with that of one rule on all stacks of a used truck more
abbrev pub with_truck_rule : Asked → TruckRule → Asked
with_truck_rule asked Unbraced = with_placement asked
with_truck_rule asked Overload = with_weights asked
with_truck_rule asked Middle = with_weights asked
with_truck_rule asked Rear = with_weights asked

-- with that of any rule more
abbrev pub with_rule : Asked → Rule → Asked
with_rule asked (OfStacks rule) = asked
with_rule asked (OfPairs rule) = with_pair_rule asked rule
with_rule asked (OfTrucks rule) = with_truck_rule asked rule

-- every rule below a rank is on single stacks or is asked
pub record AskedBelow (rank : ℕ) (asked : Asked) : Type 0 where
  pub each : (k : ℕ) → k < rank → on_stack (rule_at k) ≡ true ⊎ is_asked asked (rule_at k) ≡ true

-- ---- what is answered
-- whether a rule on pairs is kept
abbrev pub pair_kept : PairRule → Findings → Bool
pair_kept SecondPair f = f.single_pair
pair_kept Overlap f = f.placement.apart
pair_kept Order f = f.placement.in_order

-- the lowest place of a rule on all stacks of a used truck
abbrev pub truck_found : TruckRule → Findings → Option Place
truck_found Unbraced f = f.placement.unbraced
truck_found Overload f = f.weights.overload
truck_found Middle f = f.weights.middle
truck_found Rear f = f.weights.rear

-- a search found nothing
abbrev pub nothing : Option Place → Bool
nothing (Some p) = false
nothing None = true

-- whether a rule is kept, as far as the used trucks tell; of rules on single stacks they tell nothing
abbrev pub kept_by : Rule → Findings → Bool
kept_by (OfStacks rule) f = true
kept_by (OfPairs rule) f = pair_kept rule f
kept_by (OfTrucks rule) f = nothing (truck_found rule f)

-- the answer on a rule is right: a yes where no place is listed and nowhere else, or the lowest place
abbrev pub Tells : Rule → Instance → List Stack → Findings → Type 0
Tells (OfStacks rule) i p f = Unit {0}
Tells (OfPairs rule) i p f = (pair_kept rule f ≡ true) ↔ (rule_places (OfPairs rule) i p ≡ [])
Tells (OfTrucks rule) i p f = truck_found rule f ≡ lowest_in (rule_places (OfTrucks rule) i p)

-- of no used truck: every rule is kept
abbrev pub no_findings : Findings
no_findings = record {
  single_pair = true;
  placement = record { apart = true; in_order = true; unbraced = None };
  weights = record { overload = None; middle = None; rear = None };
}

-- the placement rules on two parts of a plan that share no used truck
abbrev pub joined_placement : Placement → Placement → Placement
joined_placement a b = record {
  apart = a.apart && b.apart;
  in_order = a.in_order && b.in_order;
  unbraced = lower_found a.unbraced b.unbraced;
}

-- and the weight rules
abbrev pub joined_weights : WeightPlaces → WeightPlaces → WeightPlaces
joined_weights a b = record {
  overload = lower_found a.overload b.overload;
  middle = lower_found a.middle b.middle;
  rear = lower_found a.rear b.rear;
}

-- and all of them
abbrev pub joined : Findings → Findings → Findings
joined a b = record {
  single_pair = a.single_pair && b.single_pair;
  placement = joined_placement a.placement b.placement;
  weights = joined_weights a.weights b.weights;
}

-- what must be kept before a rule is told: the loading order is asked only where no stacks overlap, since the plan is refused by 23 otherwise
abbrev pub Beforehand : Rule → Findings → Type 0
Beforehand (OfStacks rule) f = Unit {0}
Beforehand (OfPairs SecondPair) f = Unit {0}
Beforehand (OfPairs Overlap) f = Unit {0}
Beforehand (OfPairs Order) f = pair_kept Overlap f ≡ true
Beforehand (OfTrucks rule) f = Unit {0}

-- the answers on all rules that are asked
pub record TellsAsked (asked : Asked) (i : Instance) (p : List Stack) (f : Findings) : Type 0 where
  pub each : (rule : Rule) → is_asked asked rule ≡ true → Beforehand rule f → Tells rule i p f

-- how many used trucks a plan has, and what they cost together
pub record CountsTrucks (i : Instance) (p : List Stack) (count cost : ℕ) : Type 0 where
  pub counted : count ≡ length (used_trucks p)
  pub paid : cost ≡ sum (transport_cost i) (used_trucks p)
  pub few : cost ≤ 4194304000000000

-- the used trucks keep every rule that is asked of them
abbrev pub all_kept : Findings → Bool
all_kept f =
    pair_kept SecondPair f && pair_kept Overlap f && pair_kept Order f && nothing (truck_found Unbraced f) && nothing (truck_found Overload f)
    && nothing (truck_found Middle f) && nothing (truck_found Rear f)

-- the first rank below `upto` at which the used trucks tell of a broken rule; none where they tell of none
pub record FirstRank (f : Findings) (upto : ℕ) (first : Option ℕ) : Type 0 where
  pub kept : (k : ℕ) → k < unwrap_or first upto → kept_by (rule_at k) f ≡ true
  pub broken : (rank : ℕ) → first ≡ Some rank → (rank < upto) × (kept_by (rule_at rank) f ≡ false)

-- the rank of the first broken rule: one that the used trucks tell of, or else the first one on single stacks
abbrev pub told_rank : Option ℕ → Option Breach → Option ℕ
told_rank (Some rank) first = Some rank
told_rank None None = None
told_rank None (Some b) = Some b.rank

-- the place that a search found; zeros where it found none
abbrev pub place_in : Option Place → Place
place_in (Some p) = p
place_in None = place 0 0 0

-- where the first broken rule on single stacks is broken
abbrev pub stack_found : Option Breach → Option Place
stack_found None = None
stack_found (Some b) = Some b.place

-- what a survey says of the rule that is the first broken one
pub record BrokenAt (i : Instance) (p : List Stack) (s : Survey) (rank : ℕ) : Type 0 where
  pub inside : rank < rule_count
  pub on_stacks : on_stack (rule_at rank) ≡ true → Some (place_in (stack_found s.first)) ≡ lowest_in (rule_places (rule_at rank) i p)
  pub tells : on_stack (rule_at rank) ≡ false → Tells (rule_at rank) i p s.found × (kept_by (rule_at rank) s.found ≡ false)

-- what it says of the loading rules: none below its rank is broken, or none at all where it has none; and the rule of that rank is broken
pub record SurveyOf (i : Instance) (p : List Stack) (s : Survey) : Type 0 where
  pub kept : KeptBelow i p (unwrap_or s.rank rule_count)
  pub broken : (rank : ℕ) → s.rank ≡ Some rank → BrokenAt i p s rank
  pub used : CountsTrucks i p s.used.count s.used.cost
