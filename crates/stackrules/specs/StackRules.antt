-- The rules on single stacks: all rules on an item or on the stack itself at once, and the first one that is broken.
use Rattle.std.specs.Prelude.{◌≡◌, Bool, true, not, ◌&&◌, Option, Some, None, List, [], ◌∷◌, ℕ, ◌+◌, ◌-◌, ◌≤◌, ◌<◌, eqb, length, get_or}
use Rattle.std.specs.declared.cmp.Ordering.{Ordering}
use Rattle.std.specs.Ordering.{nat_cmp, ordering_then}
use Rattle.meaning.specs.declared.Place.{Place}
use Rattle.meaning.specs.Lists.{filter, only_if}
use Rattle.meaning.specs.Places.{place}
use Rattle.meaning.specs.Model.{Instance, Stack, Item, item, number}
use Rattle.meaning.specs.Measures.{plant_dock_order}
use Rattle.meaning.specs.Rules.{plant_matches, product_carried, supplier_visited, arrives_in_window, docks_served, stackable, orientation_kept, times_loaded}
use Rattle.table.specs.Filled.{TruckNumber}
use Rattle.search.specs.Lowest.{lowest_in, place_cmp}
use Rattle.manifest.specs.declared.row.Row.{Row}
use Rattle.manifest.specs.Manifest.{manifest_order, manifest_at, row_of, RowWithin}
use Rattle.rules.specs.declared.Rule.{Rule}
use Rattle.rules.specs.declared.Rule.TheVariants.{OfStacks, OfPairs, OfTrucks}
use Rattle.rules.specs.declared.OwnRule.{OwnRule}
use Rattle.rules.specs.declared.StackRule.TheVariants.{EachItem, Own}
use Rattle.rules.specs.LoadingRules.{item_test, stack_rule_places, rule_places, on_stack, rule_count, rule_at}
use Rattle.stackrules.specs.declared.Breach.{Breach}

-- the row of the stack at place k of the manifest: it tells the stack's measures, and its numbers are those of one and of its truck
pub record RowOfStack (i : Instance) (p : List Stack) (k : ℕ) (row : Row) : Type 0 where
  pub is : row ≡ row_of i p (get_or (manifest_order p) k 0)
  pub known : row.index < length p
  pub on_truck : TruckNumber i row.truck
  pub within : RowWithin row
  pub few_docks : (n : ℕ) → plant_dock_order i (manifest_at p k) (item i n) ≤ 8

-- when an item of a stack keeps every rule on items
abbrev pub every_item_test : Instance → Stack → Item → Bool
every_item_test i s a =
    plant_matches i s a && product_carried i s a && supplier_visited i s a && arrives_in_window i s a && docks_served i s a && stackable i s a && orientation_kept i s a

-- where a stack breaks a rule on itself
abbrev pub own_places : OwnRule → Instance → Stack → List Place
own_places rule i s = stack_rule_places (Own rule) i (s ∷ [])

-- a stack that keeps every rule on itself
abbrev pub OwnRulesKept : Instance → Stack → Type 0
OwnRulesKept i s = (rule : OwnRule) → own_places rule i s ≡ []

-- where a stack breaks a rule on itself, or with its item n a rule on items
unfoldable pub with_item : Instance → Stack → ℕ → Rule → List Place
with_item i s n (OfStacks (EachItem rule)) = only_if (not (item_test rule i s (item i n))) (place (number s) n 0)
with_item i s n (OfStacks (Own rule)) = own_places rule i s
with_item i s n (OfPairs rule) = []
with_item i s n (OfTrucks rule) = []

-- ---- the first rule on stacks that is broken
-- how two breaches compare, as their derived order has it: by rank, and of one rule by place
abbrev pub breach_cmp : Breach → Breach → Ordering
breach_cmp a b = ordering_then (nat_cmp a.rank b.rank) (place_cmp a.place b.place)

-- the rank of a breach; where there is none, the number of rules
abbrev pub rank_of : Option Breach → ℕ
rank_of None = rule_count
rank_of (Some b) = b.rank

-- the breach is that of the first rule on stacks that has places, with the lowest of them; where none has any, it is none
pub record FirstOf (places : Rule → List Place) (r : Option Breach) : Type 0 where
  pub kept : (k : ℕ) → k < rank_of r → on_stack (rule_at k) ≡ true → places (rule_at k) ≡ []
  pub broken : (b : Breach) → r ≡ Some b → (b.rank < rule_count) × (on_stack (rule_at b.rank) ≡ true) × (Some b.place ≡ lowest_in (places (rule_at b.rank)))

-- it is that of the first rule on stacks that these stacks break
abbrev pub FirstOnStacks : Instance → List Stack → Option Breach → Type 0
FirstOnStacks i p r = FirstOf (λ rule. rule_places rule i p) r

-- ---- counting
-- the words have a count for each entry of a load, with room for all entries besides what was counted before
pub record Countable (load times : List ℕ) : Type 0 where
  pub entries : (j : ℕ) → j < length load → (1 ≤ get_or load j 0) × (get_or load j 0 ≤ length times)
  pub few : (j : ℕ) → j < length load → get_or times (get_or load j 0 - 1) 0 + length load ≤ 4294967295

-- of each item the words count what they did before, and how often the load has it
pub record Counted (load before after : List ℕ) : Type 0 where
  pub counts : (n : ℕ) → 1 ≤ n → n ≤ length before → get_or after (n - 1) 0 ≡ length (filter (eqb n) load) + get_or before (n - 1) 0

-- the words hold how often these stacks load each of the first `items` items
pub record Tally (items : ℕ) (p : List Stack) (times : List ℕ) : Type 0 where
  pub room : items ≤ length times
  pub counts : (n : ℕ) → 1 ≤ n → n ≤ items → get_or times (n - 1) 0 ≡ times_loaded p n
