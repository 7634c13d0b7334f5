-- The loading rules, all but 9, by the names that the code has for them: where each is broken, and their order.
use Rattle.std.specs.Prelude.{◌≡◌, Bool, true, false, List, [], ◌∷◌, map, ℕ, ◌<◌, length, get_or}
use Rattle.meaning.specs.declared.Place.{Place}
use Rattle.meaning.specs.Model.{Instance, Stack, Item}
use Rattle.meaning.specs.Measures.{sm}
use Rattle.meaning.specs.Rules.{item_places, stack_places, pair_places, truck_places, departure_places}
use Rattle.meaning.specs.Rules.{plant_matches, product_carried, supplier_visited, arrives_in_window, docks_served, stackable, orientation_kept}
use Rattle.meaning.specs.Rules.{plant_docks_allowed, plant_dock_count, top_weight_within, weight_above, stackability_kept, item_count, density_within, inside, exceeded_side}
use Rattle.meaning.specs.Rules.{single_pair, disjoint, in_loading_order, braced, no_amount, within_load_limit, middle_axle_holds, rear_axle_holds}
use Rattle.rules.specs.declared.ItemRule.{ItemRule}
use Rattle.rules.specs.declared.ItemRule.TheVariants.{Plant, Product, Supplier, Day, Dock, Mixed, Turned}
use Rattle.rules.specs.declared.OwnRule.{OwnRule}
use Rattle.rules.specs.declared.OwnRule.TheVariants.{Docks, TopHeavy, TooMany, Dense, Outside}
use Rattle.rules.specs.declared.StackRule.{StackRule}
use Rattle.rules.specs.declared.StackRule.TheVariants.{EachItem, Own}
use Rattle.rules.specs.declared.PairRule.{PairRule}
use Rattle.rules.specs.declared.PairRule.TheVariants.{SecondPair, Overlap, Order}
use Rattle.rules.specs.declared.TruckRule.{TruckRule}
use Rattle.rules.specs.declared.TruckRule.TheVariants.{Unbraced, Overload, Middle, Rear}
use Rattle.rules.specs.declared.Rule.{Rule}
use Rattle.rules.specs.declared.Rule.TheVariants.{OfStacks, OfPairs, OfTrucks}

-- ---- where a rule is broken
-- when a rule on an item of a stack is kept
abbrev pub item_test : ItemRule → Instance → Stack → Item → Bool
item_test Plant i s a = plant_matches i s a
item_test Product i s a = product_carried i s a
item_test Supplier i s a = supplier_visited i s a
item_test Day i s a = arrives_in_window i s a
item_test Dock i s a = docks_served i s a
item_test Mixed i s a = stackable i s a
item_test Turned i s a = orientation_kept i s a

-- when a rule on the stack itself is kept; its test looks at no other stack, so it is asked of an empty plan
abbrev pub own_test : OwnRule → Instance → Stack → Bool
own_test Docks i s = plant_docks_allowed i [] s
own_test TopHeavy i s = top_weight_within i [] s
own_test TooMany i s = stackability_kept i [] s
own_test Dense i s = density_within i [] s
own_test Outside i s = inside i [] s

-- the amount that its place tells
abbrev pub own_amount : OwnRule → Instance → Stack → ℕ
own_amount Docks i s = plant_dock_count i s
own_amount TopHeavy i s = weight_above i s
own_amount TooMany i s = item_count i s
own_amount Dense i s = sm i s
own_amount Outside i s = exceeded_side i s

-- where a rule on single stacks is broken
abbrev pub stack_rule_places : StackRule → Instance → List Stack → List Place
stack_rule_places (EachItem rule) i p = item_places (item_test rule) i p
stack_rule_places (Own rule) i p = stack_places (λ j q. own_test rule j) (own_amount rule) i p

-- when a rule on two stacks is kept
abbrev pub pair_test : PairRule → Instance → Stack → Stack → Bool
pair_test SecondPair i s r = single_pair i s r
pair_test Overlap i s r = disjoint i s r
pair_test Order i s r = in_loading_order i s r

-- where a rule on all stacks of a used truck is broken
abbrev pub truck_rule_places : TruckRule → Instance → List Stack → List Place
truck_rule_places Unbraced i p = stack_places braced no_amount i p
truck_rule_places Overload i p = truck_places within_load_limit i p
truck_rule_places Middle i p = departure_places middle_axle_holds i p
truck_rule_places Rear i p = departure_places rear_axle_holds i p

-- where a loading rule is broken
abbrev pub rule_places : Rule → Instance → List Stack → List Place
rule_places (OfStacks rule) i p = stack_rule_places rule i p
rule_places (OfPairs rule) i p = pair_places (pair_test rule) i p
rule_places (OfTrucks rule) i p = truck_rule_places rule i p

-- whether a rule is on single stacks
abbrev pub on_stack : Rule → Bool
on_stack (OfStacks rule) = true
on_stack (OfPairs rule) = false
on_stack (OfTrucks rule) = false

-- ---- the order
-- a rule with its verdict, which is its name
pub record Named : Type 0 where
  pub verdict : ℕ
  pub rule : Rule

infix 80 ◌names◌
-- a rule by its verdict
abbrev pub ◌names◌ : ℕ → Rule → Named
n names r = record { verdict = n; rule = r }

-- the loading rules in the order of the verdict table
abbrev pub named : List Named
named =
    10 names OfStacks (EachItem Plant)
    ∷ 11 names OfStacks (EachItem Product)
    ∷ 12 names OfStacks (EachItem Supplier)
    ∷ 13 names OfStacks (EachItem Day)
    ∷ 14 names OfStacks (EachItem Dock)
    ∷ 15 names OfStacks (EachItem Mixed)
    ∷ 16 names OfStacks (Own Docks)
    ∷ 17 names OfPairs SecondPair
    ∷ 18 names OfStacks (EachItem Turned)
    ∷ 19 names OfStacks (Own TopHeavy)
    ∷ 20 names OfStacks (Own TooMany)
    ∷ 21 names OfStacks (Own Dense)
    ∷ 22 names OfStacks (Own Outside)
    ∷ 23 names OfPairs Overlap
    ∷ 24 names OfTrucks Unbraced
    ∷ 25 names OfPairs Order
    ∷ 26 names OfTrucks Overload
    ∷ 27 names OfTrucks Middle
    ∷ 28 names OfTrucks Rear
    ∷ []

-- their verdicts; a rule's rank is its place in this list, from 0
abbrev pub verdicts : List ℕ
verdicts = map (λ (r : Named). r.verdict) named

-- how many there are
abbrev pub rule_count : ℕ
rule_count = length named

-- the rules in this order
abbrev pub ordered : List Rule
ordered = map (λ (r : Named). r.rule) named

-- the rule of a rank; behind the last rank, where there is none, Rear stands in
unfoldable pub rule_at : ℕ → Rule
rule_at rank = get_or ordered rank (OfTrucks Rear)

-- the verdict of a rule
abbrev pub item_verdict : ItemRule → ℕ
item_verdict Plant = 10
item_verdict Product = 11
item_verdict Supplier = 12
item_verdict Day = 13
item_verdict Dock = 14
item_verdict Mixed = 15
item_verdict Turned = 18

abbrev pub own_verdict : OwnRule → ℕ
own_verdict Docks = 16
own_verdict TopHeavy = 19
own_verdict TooMany = 20
own_verdict Dense = 21
own_verdict Outside = 22

abbrev pub pair_verdict : PairRule → ℕ
pair_verdict SecondPair = 17
pair_verdict Overlap = 23
pair_verdict Order = 25

abbrev pub truck_verdict : TruckRule → ℕ
truck_verdict Unbraced = 24
truck_verdict Overload = 26
truck_verdict Middle = 27
truck_verdict Rear = 28

abbrev pub verdict_of : Rule → ℕ
verdict_of (OfStacks (EachItem rule)) = item_verdict rule
verdict_of (OfStacks (Own rule)) = own_verdict rule
verdict_of (OfPairs rule) = pair_verdict rule
verdict_of (OfTrucks rule) = truck_verdict rule

-- the rules of the ranks below this one are kept
pub record KeptBelow (i : Instance) (p : List Stack) (rank : ℕ) : Type 0 where
  pub each : (k : ℕ) → k < rank → rule_places (rule_at k) i p ≡ []
