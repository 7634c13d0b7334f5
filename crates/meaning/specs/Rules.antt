-- Document 01, verdicts 9 to 28: for each rule a test that says when it is kept, and the places where it is broken. No test depends on
-- where a stack stands in its file.
use Rattle.std.specs.Prelude.{Bool, true, false, cond, not, ◌&&◌, ◌||◌, ℕ, suc, ◌+◌, ◌*◌, min, max, leb, ltb, eqb, pos, ◌+ℤ◌, ◌-ℤ◌, ◌*ℤ◌, length}
use mathlib.Core.List.{List, [], ◌∷◌, ◌++◌, map, flat_map}
use Rattle.std.specs.Int.Signed.{le_z}
use Rattle.meaning.specs.declared.Place.{Place}
use Rattle.meaning.specs.Lists.{all, any, filter, only_if, up_from, listed, order_in, order_from, between, sum}
use Rattle.meaning.specs.Places.{place}
use Rattle.meaning.specs.Model.{Instance, Truck, Stack, Item, item, truck_numbered, truck_of, number, x, y, orientation}
use Rattle.meaning.specs.Model.{IS, ISM, IR, IO, IDE, IDL, IP, IU, IK, TL, TW, TMm, TP, TDA, TMM, TF, TEM, CM, CJfm, CJfc, CJfh, EM, EJhr, EMmr, EMmm}
use Rattle.meaning.specs.Measures.{bottom, above, sl, sw, across, xe, ye, height, height_limit, weight, sm, supplier_order, supplier_dock_order, plant_dock_order, plant_docks_of}
use Rattle.meaning.specs.Measures.{UsedTruck, another, used_trucks, stacks_on, weight_on, departures, stacks_at_departure, H}

-- ---- the places where a test fails
-- (stack, item), over the items of each stack
unfoldable pub item_places : (Instance → Stack → Item → Bool) → Instance → List Stack → List Place
unfolding flat_map
item_places kept i p = flat_map (λ (s : Stack). flat_map (λ n. only_if (not (kept i s (item i n))) (place (number s) n 0)) s.load) p

-- (stack, a number of that stack), over the stacks; the test may look at the whole plan
unfoldable pub stack_places : (Instance → List Stack → Stack → Bool) → (Instance → Stack → ℕ) → Instance → List Stack → List Place
unfolding flat_map
stack_places kept amount i p = flat_map (λ (s : Stack). only_if (not (kept i p s)) (place (number s) (amount i s) 0)) p

-- no second place: (stack)
abbrev pub no_amount : Instance → Stack → ℕ
no_amount i s = 0

-- (stack, stack), over each two stacks of a used truck, in both orders
unfoldable pub pair_places : (Instance → Stack → Stack → Bool) → Instance → List Stack → List Place
unfolding flat_map
pair_places kept i p =
    flat_map (λ (s : Stack). flat_map (λ (r : Stack). only_if (another s r && not (kept i s r)) (place (number s) (number r) 0)) p) p

-- (truck, copy), over the used trucks
unfoldable pub truck_places : (Instance → Truck → List Stack → Bool) → Instance → List Stack → List Place
unfolding flat_map used_trucks stacks_on
truck_places kept i p =
    flat_map (λ (u : UsedTruck). only_if (not (kept i (truck_numbered i u.truck) (stacks_on p u))) (place u.truck u.copy 0)) (used_trucks p)

-- "it counts only if one is"
abbrev pub counts : List Stack → Bool
counts [] = false
counts (s ∷ on) = true

-- (truck, copy, k), over the departures of each used truck that count
unfoldable pub departure_places : (Instance → Truck → List Stack → Bool) → Instance → List Stack → List Place
unfolding flat_map up_from used_trucks stacks_at_departure
departure_places kept i p =
    flat_map (λ (u : UsedTruck).
    flat_map (λ k.
    let on = stacks_at_departure i p u k in
    only_if (counts on && not (kept i (truck_numbered i u.truck) on)) (place u.truck u.copy k))
    (departures i u)) (used_trucks p)

-- ---- item rules
-- how often an item is loaded
unfoldable pub times_loaded : List Stack → ℕ → ℕ
unfolding sum filter
times_loaded p n = sum (λ (s : Stack). length (filter (eqb n) s.load)) p

-- 9 not once, I1: each item is loaded once; (item, times loaded)
unfoldable pub not_once : Instance → List Stack → List Place
unfolding flat_map up_from times_loaded
not_once i p = flat_map (λ n. only_if (not (eqb (times_loaded p n) 1)) (place n (times_loaded p n) 0)) (up_from 1 (length i.items))

-- 10 plant, I2: the truck goes to the item's plant
abbrev pub plant_matches : Instance → Stack → Item → Bool
plant_matches i s a = eqb (IP a) (TP (truck_of i s))

-- 11 product, I3: the truck takes the item's product
abbrev pub product_carried : Instance → Stack → Item → Bool
product_carried i s a = listed (IR a) (truck_of i s).products

-- 12 supplier, I4: the truck stops at the item's supplier
abbrev pub supplier_visited : Instance → Stack → Item → Bool
supplier_visited i s a = listed (IU a) (truck_of i s).suppliers

-- 13 day, I5: IDE ≤ TDA ≤ IDL
abbrev pub arrives_in_window : Instance → Stack → Item → Bool
arrives_in_window i s a = between (IDE a) (IDL a) (TDA (truck_of i s))

-- 14 dock: the supplier dock is listed for the item's supplier, and the plant dock is listed
abbrev pub docks_served : Instance → Stack → Item → Bool
docks_served i s a = leb 1 (supplier_dock_order i s a) && leb 1 (plant_dock_order i s a)

-- ---- stack rules
-- 15 mixed, S1: supplier, plant, code, maximal stackability and supplier dock are the bottom item's
abbrev pub stackable : Instance → Stack → Item → Bool
stackable i s a =
    let b = bottom i s in
    eqb (IU a) (IU b) && eqb (IP a) (IP b) && eqb (IS a) (IS b) && eqb (ISM a) (ISM b) && eqb (IK a) (IK b)

-- how many plant docks a stack has
abbrev pub plant_dock_count : Instance → Stack → ℕ
plant_dock_count i s = length (plant_docks_of i s)

-- two loading orders that follow one another
unfoldable pub consecutive : List ℕ → Bool
consecutive [] = false
consecutive (a ∷ []) = false
consecutive (a ∷ b ∷ []) = eqb (suc a) b || eqb (suc b) a
consecutive (a ∷ b ∷ c ∷ l) = false

-- 16 docks, S2 and S3: one plant dock; where TF = 1 also two, if they are consecutive; (stack, how many)
abbrev pub plant_docks_allowed : Instance → List Stack → Stack → Bool
plant_docks_allowed i p s = leb (plant_dock_count i s) 1 || (eqb (TF (truck_of i s)) 1 && consecutive (map (order_in (truck_of i s).plant_docks) (plant_docks_of i s)))

-- 17 second pair, S3: two stacks of one code on a used truck do not both have two plant docks
abbrev pub single_pair : Instance → Stack → Stack → Bool
single_pair i s r = not (eqb (plant_dock_count i s) 2 && eqb (plant_dock_count i r) 2 && eqb (IS (bottom i s)) (IS (bottom i r)))

-- 18 turned, S4: a forced orientation is the stack's
abbrev pub orientation_kept : Instance → Stack → Item → Bool
orientation_kept i s a = eqb (IO a) 0 || eqb (IO a) (orientation s)

-- the weight above the bottom item
abbrev pub weight_above : Instance → Stack → ℕ
weight_above i s = weight i (above s)

-- 19 top heavy, S5: the weight above the bottom item is at most TMM; (stack, that weight)
abbrev pub top_weight_within : Instance → List Stack → Stack → Bool
top_weight_within i p s = leb (weight_above i s) (TMM (truck_of i s))

-- how many items a stack has
abbrev pub item_count : Instance → Stack → ℕ
item_count i s = length s.load

-- 20 too many, S6: no more items than the maximal stackability, which 15 makes the same for all of them; (stack, items)
abbrev pub stackability_kept : Instance → List Stack → Stack → Bool
stackability_kept i p s = leb (item_count i s) (ISM (bottom i s))

-- 21 dense, S7: sm × 1000000 ≤ TEM × sl × sw; (stack, sm)
abbrev pub density_within : Instance → List Stack → Stack → Bool
density_within i p s = leb (sm i s * 1000000) (TEM (truck_of i s) * sl i s * sw i s)

-- ---- placement rules
-- xe ≤ TL
abbrev pub within_length : Instance → Stack → Bool
within_length i s = leb (xe i s) (TL (truck_of i s))

-- ye ≤ TW
abbrev pub within_width : Instance → Stack → Bool
within_width i s = leb (ye i s) (TW (truck_of i s))

-- height ≤ TH
abbrev pub within_height : Instance → Stack → Bool
within_height i s = leb (height i s) (height_limit i s)

-- 22 outside, P1: xe ≤ TL, ye ≤ TW, height ≤ TH; (stack, the lowest dimension that does not fit)
abbrev pub inside : Instance → List Stack → Stack → Bool
inside i p s = within_length i s && within_width i s && within_height i s

-- "1 length 2 width 3 height"
abbrev pub exceeded_side : Instance → Stack → ℕ
exceeded_side i s = cond (not (within_length i s)) 1 (cond (not (within_width i s)) 2 3)

-- 23 overlap, P2: two stacks of a used truck lie apart along the trailer or across it
abbrev pub disjoint : Instance → Stack → Stack → Bool
disjoint i s r = leb (xe i s) (x r) || leb (xe i r) (x s) || leb (ye i s) (y r) || leb (ye i r) (y s)

-- F-2, how long the common edge of a contact is: "at least 100 mm, or the narrower of the two stacks' widths across the trailer if that is below 100"
abbrev pub least_edge : Instance → Stack → Stack → ℕ
least_edge i s r = min 100 (min (across i s) (across i r))

-- P3 by F-2, "a contact needs a common edge": r ends at the x of s, and the common part of their y ranges, from the later y to the earlier ye, is long enough
abbrev pub in_contact : Instance → Stack → Stack → Bool
in_contact i s r = eqb (xe i r) (x s) && leb (max (y s) (y r) + least_edge i s r) (min (ye i s) (ye i r))

-- s is braced by r: another stack on its used truck, in contact with it
abbrev pub braced_by : Instance → Stack → Stack → Bool
braced_by i s r = another s r && in_contact i s r

-- 24 unbraced, P3: a stack with x > 0 is braced by some stack; (stack)
abbrev pub braced : Instance → List Stack → Stack → Bool
braced i p s = eqb (x s) 0 || any (braced_by i s) p

-- P4 (3): "every plant dock order of s1 at most every one of s2"
unfoldable pub docks_not_after : Instance → Stack → Stack → Bool
unfolding all order_from
docks_not_after i s r = all (λ n. all (λ m. leb (plant_dock_order i s (item i n)) (plant_dock_order i r (item i m))) r.load) s.load

-- P4: the three cases in which s must have x no greater than r's
unfoldable pub loads_before : Instance → Stack → Stack → Bool
unfolding docks_not_after order_from
loads_before i s r =
    let a = bottom i s in
    let b = bottom i r in
    let same_supplier = eqb (IU a) (IU b) in
    let same_dock = eqb (IK a) (IK b) in
    ltb (supplier_order i s) (supplier_order i r)
    || (same_supplier && ltb (supplier_dock_order i s a) (supplier_dock_order i r b))
    || (same_supplier && same_dock && docks_not_after i s r && not (docks_not_after i r s))

-- 25 order, P4: where s precedes r, its x is no greater; (s, r)
abbrev pub in_loading_order : Instance → Stack → Stack → Bool
in_loading_order i s r = not (loads_before i s r) || leb (x s) (x r)

-- ---- weight rules
-- 26 overload, W1: the stacks of a used truck weigh at most TMm; (truck, copy)
unfoldable pub within_load_limit : Instance → Truck → List Stack → Bool
unfolding weight_on
within_load_limit i t on = leb (weight_on i on) (TMm t)

-- 27 middle, W2: 2 × EJhr × CM × CJfc + H × CJfh ≤ 2 × EJhr × CJfm × EMmm; (truck, copy, k)
unfoldable pub middle_axle_holds : Instance → Truck → List Stack → Bool
unfolding H
middle_axle_holds i t on =
    le_z (pos 2 *ℤ pos (EJhr t) *ℤ pos (CM t) *ℤ pos (CJfc t) +ℤ H i t on *ℤ pos (CJfh t)) (pos 2 *ℤ pos (EJhr t) *ℤ pos (CJfm t) *ℤ pos (EMmm t))

-- 28 rear, W2: 2 × EJhr × (weight on + EM) − H ≤ 2 × EJhr × EMmr; (truck, copy, k)
unfoldable pub rear_axle_holds : Instance → Truck → List Stack → Bool
unfolding H weight_on
rear_axle_holds i t on = le_z (pos 2 *ℤ pos (EJhr t) *ℤ (pos (weight_on i on) +ℤ pos (EM t)) -ℤ H i t on) (pos 2 *ℤ pos (EJhr t) *ℤ pos (EMmr t))

-- ---- the rules in the order of the verdict table
-- a verdict number, and the places where its rule is broken
pub record Rule : Type 0 where
  pub verdict : ℕ
  pub places : Instance → List Stack → List Place

infix 80 ◌at◌
-- a rule by its number and its places
abbrev pub ◌at◌ : ℕ → (Instance → List Stack → List Place) → Rule
n at places = record { verdict = n; places = places }

-- 9 not once stands apart: it alone asks for items that no stack has
abbrev pub not_once_rule : Rule
not_once_rule = 9 at not_once

-- the item rules but for 9: "Item rules are 9 to 14"
unfoldable pub item_rules : List Rule
unfolding item_places any order_from
item_rules =
    10 at item_places plant_matches  -- plant
    ∷ 11 at item_places product_carried  -- product
    ∷ 12 at item_places supplier_visited  -- supplier
    ∷ 13 at item_places arrives_in_window  -- day
    ∷ 14 at item_places docks_served  -- dock
    ∷ []

-- "stack rules 15 to 21"
unfoldable pub stack_rules : List Rule
unfolding item_places stack_places pair_places plant_docks_of consecutive order_from weight
stack_rules =
    15 at item_places stackable  -- mixed
    ∷ 16 at stack_places plant_docks_allowed plant_dock_count  -- docks
    ∷ 17 at pair_places single_pair  -- second pair
    ∷ 18 at item_places orientation_kept  -- turned
    ∷ 19 at stack_places top_weight_within weight_above  -- top heavy
    ∷ 20 at stack_places stackability_kept item_count  -- too many
    ∷ 21 at stack_places density_within sm  -- dense
    ∷ []

-- placement rules, 22 to 25
unfoldable pub placement_rules : List Rule
unfolding stack_places pair_places height any loads_before
placement_rules =
    22 at stack_places inside exceeded_side  -- outside
    ∷ 23 at pair_places disjoint  -- overlap
    ∷ 24 at stack_places braced no_amount  -- unbraced
    ∷ 25 at pair_places in_loading_order  -- order
    ∷ []

-- weight rules, 26 to 28
unfoldable pub weight_rules : List Rule
unfolding truck_places departure_places within_load_limit middle_axle_holds rear_axle_holds
weight_rules =
    26 at truck_places within_load_limit  -- overload
    ∷ 27 at departure_places middle_axle_holds  -- middle
    ∷ 28 at departure_places rear_axle_holds  -- rear
    ∷ []

-- all rules but 9, in the order of the verdict table: a verdict's number is a rule's name, and not its place
unfoldable pub loading_rules : List Rule
unfolding item_rules stack_rules placement_rules weight_rules
loading_rules = item_rules ++ (stack_rules ++ (placement_rules ++ weight_rules))

-- all rules
unfoldable pub rules : List Rule
unfolding not_once loading_rules
rules = not_once_rule ∷ loading_rules
