-- Document 01, "The picture of demand 3": a feasible load. With the rules it shares what the two files say (Model) and the vocabulary of
-- lists (Lists). What the rules measure, test and list (Measures, Rules) is not used: it is said here a second time, in signed whole numbers.
use Rattle.std.specs.Prelude.{◌≡◌, Bool, true, cond, ◌&&◌, ◌⊎◌, ℕ, suc, ◌+◌, ◌-◌, ◌≤◌, ◌<◌, eqb, ℤ, pos, ◌+ℤ◌, ◌-ℤ◌, ◌*ℤ◌, ◌≤ℤ◌, length, get_or, take, drop}
use mathlib.Core.List.{List, [], ◌∷◌, flat_map}
use Rattle.meaning.specs.Lists.{In, any, sumℤ}
use Rattle.meaning.specs.Model.{Instance, Truck, Stack, Item, item, truck_of, number, truck, copy, x, y, orientation}
use Rattle.meaning.specs.Model.{IL, IW, IH, nesting, IM, IS, ISM, IR, IO, IDE, IDL, IP, IG, IU, IK}
use Rattle.meaning.specs.Model.{TL, TW, TH, TMm, TP, TDA, TMM, TF, TEM, CM, CJfm, CJfc, CJfh, EM, EJhr, EJcr, EJeh, EMmr, EMmm}

-- ---- terms
-- two stacks on one used truck, which is a truck and a copy
pub record SameTruck (s r : Stack) : Type 0 where
  pub truck : truck s ≡ truck r
  pub copy : copy s ≡ copy r

-- the item at the bottom of a stack
abbrev pub bottom_item : Instance → Stack → Item
bottom_item i s = item i (get_or s.load 0 0)

-- n stands at place k of a list, from 1: its loading order there
pub record Stands (l : List ℕ) (n k : ℕ) : Type 0 where
  pub from : 1 ≤ k
  pub up_to : k ≤ length l
  pub there : get_or l (k - 1) 0 ≡ n

-- a and b stand in a list, at places that R compares
pub record Placed (R : ℕ → ℕ → Type 0) (l : List ℕ) (a b : ℕ) : Type 0 where
  pub first : ℕ
  pub second : ℕ
  pub of_first : Stands l a first
  pub of_second : Stands l b second
  pub order : R first second

-- a stands before b
abbrev pub Earlier : List ℕ → ℕ → ℕ → Type 0
Earlier l a b = Placed ◌<◌ l a b

-- a stands before b, or both stand at one place
abbrev pub NotLater : List ℕ → ℕ → ℕ → Type 0
NotLater l a b = Placed ◌≤◌ l a b

-- n stands at one place of a list and at no other
pub record Once (n : ℕ) (l : List ℕ) : Type 0 where
  pub at : ℕ
  pub there : Stands l n at
  pub only : (k : ℕ) → Stands l n k → k ≡ at

-- ---- item rules, 9 to 14
-- 9: each item stands once among the load entries of the whole plan
abbrev pub EachOnce : Instance → List Stack → Type 0
EachOnce i p = (n : ℕ) → 1 ≤ n → n ≤ length i.items → Once n (flat_map (λ (s : Stack). s.load) p)

-- 10 to 14, for item n of stack s
pub record ItemFits (i : Instance) (s : Stack) (n : ℕ) : Type 0 where
  -- 10: the truck goes to its plant
  pub plant : IP (item i n) ≡ TP (truck_of i s)
  -- 11: the truck takes its product
  pub product : In (IR (item i n)) (truck_of i s).products
  -- 12: the truck stops at its supplier
  pub supplier : In (IU (item i n)) (truck_of i s).suppliers
  -- 13: the truck arrives in its days
  pub not_early : IDE (item i n) ≤ TDA (truck_of i s)
  pub not_late : TDA (truck_of i s) ≤ IDL (item i n)
  -- 14: its supplier, at place k among the suppliers, has its dock listed; its plant dock is listed
  pub k : ℕ
  pub at_supplier : Stands (truck_of i s).suppliers (IU (item i n)) k
  pub supplier_dock : In (IK (item i n)) (get_or (truck_of i s).docks (k - 1) [])
  pub plant_dock : In (IG (item i n)) (truck_of i s).plant_docks

-- ---- stack rules, 15 to 21
-- 15, 18 and 20, for item n of stack s
pub record ItemStacks (i : Instance) (s : Stack) (n : ℕ) : Type 0 where
  -- 15: it is like the bottom item
  pub supplier : IU (item i n) ≡ IU (bottom_item i s)
  pub plant : IP (item i n) ≡ IP (bottom_item i s)
  pub code : IS (item i n) ≡ IS (bottom_item i s)
  pub maximal : ISM (item i n) ≡ ISM (bottom_item i s)
  pub dock : IK (item i n) ≡ IK (bottom_item i s)
  -- 18: it has no forced orientation, or the stack has it
  pub turned : (IO (item i n) ≡ 0) ⊎ (IO (item i n) ≡ orientation s)
  -- 20: no more items are in the stack than it allows
  pub not_too_many : length s.load ≤ ISM (item i n)

-- all items of a stack are for one plant dock
pub record OneDock (i : Instance) (s : Stack) : Type 0 where
  pub dock : (n m : ℕ) → In n s.load → In m s.load → IG (item i n) ≡ IG (item i m)

-- they are for two plant docks whose places follow one another
pub record TwoDocks (i : Instance) (s : Stack) : Type 0 where
  pub k : ℕ
  pub first : ℕ
  pub second : ℕ
  pub at_first : Stands (truck_of i s).plant_docks first k
  pub at_second : Stands (truck_of i s).plant_docks second (suc k)
  pub dock : (n : ℕ) → In n s.load → (IG (item i n) ≡ first) ⊎ (IG (item i n) ≡ second)

-- a stack with two plant docks: two of its items are for different ones
pub record HasTwoDocks (i : Instance) (s : Stack) : Type 0 where
  pub first : ℕ
  pub second : ℕ
  pub of_first : In first s.load
  pub of_second : In second s.load
  pub differ : IG (item i first) ≡ IG (item i second) → ⊥

-- the weight of items
abbrev pub weight_of : Instance → List ℕ → ℤ
weight_of i ns = sumℤ (λ n. pos (IM (item i n))) ns

-- 15, 16 and 18 to 21 for one stack; 17 is about two
pub record StackFits (i : Instance) (s : Stack) : Type 0 where
  pub items : (n : ℕ) → In n s.load → ItemStacks i s n
  -- 16: one plant dock, or with TF = 1 two consecutive ones
  pub docks : OneDock i s ⊎ ((TF (truck_of i s) ≡ 1) × TwoDocks i s)
  -- 19: the items above the bottom item weigh at most TMM
  pub top_weight : weight_of i (drop 1 s.load) ≤ℤ pos (TMM (truck_of i s))
  -- 21: sm × 1000000 is at most TEM × sl × sw
  pub density : (weight_of i s.load *ℤ pos 1000000) ≤ℤ (pos (TEM (truck_of i s)) *ℤ pos (IL (bottom_item i s)) *ℤ pos (IW (bottom_item i s)))

-- 15 to 21 for the stacks of a plan
pub record StacksFit (i : Instance) (p : List Stack) : Type 0 where
  pub each : (s : Stack) → In s p → StackFits i s
  -- 17: two stacks of one code on one used truck do not both have two plant docks
  pub single_pair : (s r : Stack) → In s p → In r p → SameTruck s r → (number s ≡ number r → ⊥) → IS (bottom_item i s) ≡ IS (bottom_item i r)
      → HasTwoDocks i s → HasTwoDocks i r → ⊥

-- ---- the height of a stack: "the sum of IH less the nesting heights of all but the bottom item"
abbrev pub height_of : Instance → Stack → ℤ
height_of i s = sumℤ (λ n. pos (IH (item i n))) s.load -ℤ sumℤ (λ n. pos (nesting (item i n))) (drop 1 s.load)

-- ---- a sum over those stacks of a plan that a test picks
abbrev pub sum_where : (Stack → Bool) → (Stack → ℤ) → List Stack → ℤ
sum_where test f p = sumℤ (λ s. cond (test s) (f s) (pos 0)) p

-- r is on the used truck of s
abbrev pub on_truck_of : Stack → Stack → Bool
on_truck_of s r = eqb (truck s) (truck r) && eqb (copy s) (copy r)

-- ---- loading order P4: the three cases in which s must have x no greater than r's, for two stacks of one used truck
pub data MustPrecede (i : Instance) (s r : Stack) : Type 0 where
  -- (1) its supplier's order is smaller
  by_supplier : Earlier (truck_of i s).suppliers (IU (bottom_item i s)) (IU (bottom_item i r)) → MustPrecede i s r
  -- (2) same supplier, smaller supplier dock order
  by_dock : (k : ℕ) → IU (bottom_item i s) ≡ IU (bottom_item i r) → Stands (truck_of i s).suppliers (IU (bottom_item i s)) k
      → Earlier (get_or (truck_of i s).docks (k - 1) []) (IK (bottom_item i s)) (IK (bottom_item i r)) → MustPrecede i s r
  -- (3) both the same, every plant dock order of s at most every one of r, and not also the reverse
  by_plant_dock : IU (bottom_item i s) ≡ IU (bottom_item i r) → IK (bottom_item i s) ≡ IK (bottom_item i r)
      → ((n m : ℕ) → In n s.load → In m r.load → NotLater (truck_of i s).plant_docks (IG (item i n)) (IG (item i m)))
      → (((n m : ℕ) → In n s.load → In m r.load → NotLater (truck_of i s).plant_docks (IG (item i m)) (IG (item i n))) → ⊥)
      → MustPrecede i s r

-- ---- part 1, rules: the item and stack rules, "each stack's height at most TH, the load limit W1, the loading order P4"; here all but 9
pub record RulesHold (i : Instance) (p : List Stack) : Type 0 where
  -- 10 to 14, for each item where it is loaded
  pub items : (s : Stack) → In s p → (n : ℕ) → In n s.load → ItemFits i s n
  -- 15 to 21
  pub stacks : StacksFit i p
  -- "each stack's height at most TH"
  pub heights : (s : Stack) → In s p → height_of i s ≤ℤ pos (TH (truck_of i s))
  -- W1, for the used truck of each stack
  pub weights : (s : Stack) → In s p → sum_where (on_truck_of s) (λ r. weight_of i r.load) p ≤ℤ pos (TMm (truck_of i s))
  -- P4
  pub order : (s r : Stack) → In s p → In r p → SameTruck s r → MustPrecede i s r → x s ≤ x r

-- ---- parts 2 and 3, floor
-- the second of two numbers where the stack is turned widthwise (orientation 2), the first where it is not (orientation 1)
abbrev pub turned_by : Stack → ℕ → ℕ → ℕ
turned_by s a b = get_or (a ∷ b ∷ []) (orientation s - 1) 0

-- where a stack ends along the trailer
abbrev pub end_x : Instance → Stack → ℕ
end_x i s = x s + turned_by s (IL (bottom_item i s)) (IW (bottom_item i s))

-- how wide it is across the trailer, as it stands
abbrev pub width_across : Instance → Stack → ℕ
width_across i s = turned_by s (IW (bottom_item i s)) (IL (bottom_item i s))

-- where it ends across the trailer
abbrev pub end_y : Instance → Stack → ℕ
end_y i s = y s + width_across i s

-- "a square is a pair u, v, both from 0. It lies under a stack if x ≤ u < xe and y ≤ v < ye"
pub record Under (i : Instance) (s : Stack) (u v : ℕ) : Type 0 where
  pub from_x : x s ≤ u
  pub before_xe : u < end_x i s
  pub from_y : y s ≤ v
  pub before_ye : v < end_y i s

-- "and on the floor if u < TL and v < TW"
pub record OnFloor (t : Truck) (u v : ℕ) : Type 0 where
  pub in_length : u < TL t
  pub in_width : v < TW t

-- ---- part 4, chain
-- F-2, the length of an edge between s and r: "at least 100 mm, or the narrower of the two stacks' widths across the trailer if that is below 100"
pub data LongEnough (i : Instance) (s r : Stack) (from until : ℕ) : Type 0 where
  hundred : from + 100 ≤ until → LongEnough i s r from until
  -- the whole width of a stack: an edge that lies on both is at most as long as the narrower is wide
  whole_first : from + width_across i s ≤ until → LongEnough i s r from until
  whole_next : from + width_across i r ≤ until → LongEnough i s r from until

-- F-2, "a contact needs a common edge": r ends at the x of s, and an edge from one y to another, which is long enough, lies on both
pub record Contact (i : Instance) (s r : Stack) : Type 0 where
  pub meets : end_x i r ≡ x s
  pub from : ℕ
  pub until : ℕ
  pub on_first : (y s ≤ from) × (until ≤ end_y i s)
  pub on_next : (y r ≤ from) × (until ≤ end_y i r)
  pub long : LongEnough i s r from until

-- "A chain is a list of stacks of one used truck. Each next one has its xe at the x of the one before and is in contact with it as in P3; the last has x = 0"
abbrev pub Chain : Instance → List Stack → List Stack → Type 0
Chain i p [] = ⊥
Chain i p (s ∷ []) = In s p × (x s ≡ 0)
Chain i p (s ∷ r ∷ chain) = In s p × SameTruck s r × Contact i s r × Chain i p (r ∷ chain)

-- ---- part 5, levers
-- "each stack on brings sm × (2A − x − xe) × CJfh to the middle axle"
abbrev pub to_middle : Instance → Truck → Stack → ℤ
to_middle i t s = weight_of i s.load *ℤ (pos 2 *ℤ (pos (EJeh t) +ℤ pos (EJhr t)) -ℤ pos (x s) -ℤ pos (end_x i s)) *ℤ pos (CJfh t)

-- "and sm × (x + xe − 2 × EJeh) to the rear"
abbrev pub to_rear : Instance → Truck → Stack → ℤ
to_rear i t s = weight_of i s.load *ℤ (pos (x s) +ℤ pos (end_x i s) -ℤ pos 2 *ℤ pos (EJeh t))

-- stack r is on the used truck of s at departure k: its supplier is one of the first k of that truck
abbrev pub on_at : Instance → Stack → ℕ → Stack → Bool
on_at i s k r = on_truck_of s r && any (eqb (IU (bottom_item i r))) (take k (truck_of i s).suppliers)

-- "The trailer brings 2 × EM × EJcr × CJfh and 2 × EM × (EJhr − EJcr). The tractor brings 2 × EJhr × CM × CJfc to the middle only.
-- The sums are at most 2 × EJhr × CJfm × EMmm and 2 × EJhr × EMmr"
pub record AxleLoadsWithin (i : Instance) (p : List Stack) (s : Stack) (k : ℕ) (t : Truck) : Type 0 where
  pub middle :
      (sum_where (on_at i s k) (to_middle i t) p
      +ℤ pos 2 *ℤ pos (EM t) *ℤ pos (EJcr t) *ℤ pos (CJfh t)
      +ℤ pos 2 *ℤ pos (EJhr t) *ℤ pos (CM t) *ℤ pos (CJfc t))
      ≤ℤ (pos 2 *ℤ pos (EJhr t) *ℤ pos (CJfm t) *ℤ pos (EMmm t))
  pub rear :
      (sum_where (on_at i s k) (to_rear i t) p
      +ℤ pos 2 *ℤ pos (EM t) *ℤ (pos (EJhr t) -ℤ pos (EJcr t)))
      ≤ℤ (pos 2 *ℤ pos (EJhr t) *ℤ pos (EMmr t))

-- ---- the picture, which is document 01's word for it: "It holds when all five parts do"
-- the five parts but for rule 9: what is loaded is loaded well, whether or not it is all that there is to load
pub record LoadingFeasible (i : Instance) (p : List Stack) : Type 0 where
  pub rules : RulesHold i p
  -- "No square lies under two stacks of one used truck": a stack is known by its number
  pub floor : (s r : Stack) → In s p → In r p → SameTruck s r → (number s ≡ number r → ⊥) → (u v : ℕ) → Under i s u v → Under i r u v → ⊥
  -- "Each square under a stack is on its truck's floor"
  pub on_floor : (s : Stack) → In s p → (u v : ℕ) → Under i s u v → OnFloor (truck_of i s) u v
  -- "Every stack begins one"
  pub chains : (s : Stack) → In s p → (rest : List Stack) × Chain i p (s ∷ rest)
  -- "a loaded departure is one that counts in W2": k from 1 to the truck's suppliers, with a stack on
  pub levers : (s : Stack) → In s p → (k : ℕ) → 1 ≤ k → k ≤ length (truck_of i s).suppliers → on_at i s k s ≡ true → AxleLoadsWithin i p s k (truck_of i s)

-- the five parts whole
pub record Feasible (i : Instance) (p : List Stack) : Type 0 where
  -- 9, of the first part
  pub once : EachOnce i p
  pub loading : LoadingFeasible i p
