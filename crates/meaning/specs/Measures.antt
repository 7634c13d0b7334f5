-- Document 01, "The rules": what the rules measure on a stack, a used truck and a departure.
use Rattle.std.specs.Prelude.{Bool, cond, not, ◌&&◌, List, [], ◌∷◌, map, ℕ, ◌+◌, ◌-◌, ◌*◌, eqb, ℤ, pos, ◌+ℤ◌, ◌-ℤ◌, ◌*ℤ◌, length, get_or, drop}
use Rattle.meaning.specs.Lists.{filter, up_from, dedup, order_in, order_from, between, sum, sumℤ}
use Rattle.meaning.specs.Model.{Instance, Truck, Stack, Item, item, truck_numbered, truck_of, number, truck, copy, x, y, orientation}
use Rattle.meaning.specs.Model.{IL, IW, IH, nesting, IM, IG, IU, IK, TH, EM, EJhr, EJcr, EJeh}

-- ---- a stack
-- "A stack's supplier, supplier dock and code are its bottom item's"
abbrev pub bottom : Instance → Stack → Item
bottom i s = item i (get_or s.load 0 0)

-- the item numbers above the bottom item
abbrev pub above : Stack → List ℕ
above s = drop 1 s.load

-- "sl, sw are IL, IW of the bottom item"; density (21) needs them whichever way the stack is turned
abbrev pub sl : Instance → Stack → ℕ
sl i s = IL (bottom i s)

-- "sl, sw are IL, IW of the bottom item"
abbrev pub sw : Instance → Stack → ℕ
sw i s = IW (bottom i s)

-- "Orientation 1 gives xe = x + sl, ye = y + sw; 2 exchanges sl and sw": the extent along the trailer
abbrev pub along : Instance → Stack → ℕ
along i s = cond (eqb (orientation s) 1) (sl i s) (sw i s)

-- "2 exchanges sl and sw": the extent across the trailer
abbrev pub across : Instance → Stack → ℕ
across i s = cond (eqb (orientation s) 1) (sw i s) (sl i s)

-- "xe = x + sl", or x + sw where the stack is turned
abbrev pub xe : Instance → Stack → ℕ
xe i s = x s + along i s

-- "ye = y + sw", or y + sl where the stack is turned
abbrev pub ye : Instance → Stack → ℕ
ye i s = y s + across i s

-- "Height is the sum of IH less the nesting heights of all but the bottom item"
unfoldable pub height : Instance → Stack → ℕ
unfolding sum
height i s = sum (λ n. IH (item i n)) s.load - sum (λ n. nesting (item i n)) (above s)

-- P1: how high a stack may be, which is TH everywhere in the truck
abbrev pub height_limit : Instance → Stack → ℕ
height_limit i s = TH (truck_of i s)

-- the sum of IM over items, for a stack (sm) and for those above its bottom item (19)
unfoldable pub weight : Instance → List ℕ → ℕ
unfolding sum
weight i ns = sum (λ n. IM (item i n)) ns

-- "weight sm is the sum of IM"
abbrev pub sm : Instance → Stack → ℕ
sm i s = weight i s.load

-- ---- loading orders on the stack's truck; 0 for what is not listed
-- P4 (1) and W2: of the stack's supplier
abbrev pub supplier_order : Instance → Stack → ℕ
supplier_order i s = order_in (truck_of i s).suppliers (IU (bottom i s))

-- the docks of a supplier; none where it is not listed
abbrev pub docks_of : Truck → ℕ → List ℕ
docks_of t supplier = get_or ([] ∷ t.docks) (order_in t.suppliers supplier) []

-- P4 (2) and 14: of an item's supplier dock, among the docks of its supplier
abbrev pub supplier_dock_order : Instance → Stack → Item → ℕ
supplier_dock_order i s a = order_in (docks_of (truck_of i s) (IU a)) (IK a)

-- P4 (3) and 14: of an item's plant dock
abbrev pub plant_dock_order : Instance → Stack → Item → ℕ
plant_dock_order i s a = order_in (truck_of i s).plant_docks (IG a)

-- 16 and 17 count these: the plant docks of a stack, each once
unfoldable pub plant_docks_of : Instance → Stack → List ℕ
unfolding dedup
plant_docks_of i s = dedup eqb (map (λ n. IG (item i n)) s.load)

-- ---- "A used truck is a truck and copy with a stack"
pub record UsedTruck : Type 0 where
  pub truck : ℕ
  pub copy : ℕ

-- the used truck of a stack
abbrev pub used_by : Stack → UsedTruck
used_by s = record { truck = truck s; copy = copy s }

-- the same truck and copy
abbrev pub same_used : UsedTruck → UsedTruck → Bool
same_used u v = eqb u.truck v.truck && eqb u.copy v.copy

-- the used trucks of a plan, each once
unfoldable pub used_trucks : List Stack → List UsedTruck
unfolding dedup
used_trucks p = dedup same_used (map used_by p)

-- the stacks of a used truck
unfoldable pub stacks_on : List Stack → UsedTruck → List Stack
unfolding filter
stacks_on p u = filter (λ (s : Stack). same_used u (used_by s)) p

-- P2 to P4: r is another stack on the used truck of s; a stack is known by its number
abbrev pub another : Stack → Stack → Bool
another s r = same_used (used_by s) (used_by r) && not (eqb (number s) (number r))

-- W1 and W2: the weight of the stacks that are on
unfoldable pub weight_on : Instance → List Stack → ℕ
unfolding sum weight
weight_on i on = sum (sm i) on

-- ---- W2: "departure k is when all stacks of suppliers 1..k are on"
-- a departure for each supplier of the truck
abbrev pub departures : Instance → UsedTruck → List ℕ
departures i u = up_from 1 (length (truck_numbered i u.truck).suppliers)

-- the stacks that are on at departure k
unfoldable pub stacks_at_departure : Instance → List Stack → UsedTruck → ℕ → List Stack
unfolding filter stacks_on order_from
stacks_at_departure i p u k = filter (λ (s : Stack). between 1 k (supplier_order i s)) (stacks_on p u)

-- "sm × (2A − x − xe)", with "A = EJeh + EJhr"; negative where the stack's middle lies behind the rear axle
unfoldable pub lever : Instance → Truck → Stack → ℤ
unfolding weight
lever i t s = pos (sm i s) *ℤ (pos (2 * (EJeh t + EJhr t)) -ℤ pos (x s) -ℤ pos (xe i s))

-- "H = sum of sm × (2A − x − xe) + 2 × EM × EJcr"
unfoldable pub H : Instance → Truck → List Stack → ℤ
unfolding sumℤ lever
H i t on = sumℤ (lever i t) on +ℤ pos 2 *ℤ pos (EM t) *ℤ pos (EJcr t)
