-- What the rules see of a stack, by the model's measures: functions of its fields and of its load.
use Rattle.std.specs.Prelude.{cond, List, [], ◌∷◌, map, ℕ, ◌+◌, ◌≤◌, ltb, eqb, get_or, drop}
use Rattle.meaning.specs.Lists.{order_in, order_from}
use Rattle.meaning.specs.Model.{Instance, Stack, item, truck_numbered, x, y, orientation, IG, IU, IK}
use Rattle.meaning.specs.Measures.{xe, ye, weight, height, docks_of}
use Rattle.views.specs.declared.Position.{Position}
use Rattle.views.specs.declared.Extent.{Extent}
use Rattle.views.specs.declared.Footprint.{Footprint}
use Rattle.views.specs.declared.Size.{Size}
use Rattle.views.specs.declared.OrderRange.{OrderRange}
use Rattle.views.specs.declared.Rank.{Rank}

-- where a stack stands, and which way it is turned
abbrev pub position_of : Stack → Position
position_of s = record { x = x s; y = y s; orientation = orientation s }

-- "x, y (0..20000), orientation 1..2"
pub record PositionInRange (p : Position) : Type 0 where
  pub x : p.x ≤ 20000
  pub y : p.y ≤ 20000
  pub turned : (1 ≤ p.orientation) × (p.orientation ≤ 2)

-- "Orientation 1 gives xe = x + sl, ye = y + sw; 2 exchanges sl and sw"
abbrev pub extent_of : ℕ → ℕ → ℕ → Extent
extent_of length width orientation =
    record { along = cond (eqb orientation 1) length width; across = cond (eqb orientation 1) width length }

-- the ground of a stack at this position whose bottom item has this length and width
abbrev pub footprint_from : Position → ℕ → ℕ → Footprint
footprint_from p length width =
    let extent = extent_of length width p.orientation in
    record { x = p.x; xe = p.x + extent.along; y = p.y; ye = p.y + extent.across }

-- the ground that a stack takes
abbrev pub footprint_of : Instance → Stack → Footprint
footprint_of i s = record { x = x s; xe = xe i s; y = y s; ye = ye i s }

-- a stack of which nothing but the load is asked
abbrev pub load_only : List ℕ → Stack
load_only load = record { fields = []; load = load }

-- "Height is the sum of IH less the nesting heights of all but the bottom item"; "weight sm is the sum of IM"
unfoldable pub size_of : Instance → List ℕ → Size
unfolding weight height
size_of i load = record { weight = weight i load; height = height i (load_only load) }

-- the loading orders of the plant docks on a truck, item by item
unfoldable pub plant_dock_orders : Instance → ℕ → List ℕ → List ℕ
unfolding order_from
plant_dock_orders i truck load = map (λ n. order_in (truck_numbered i truck).plant_docks (IG (item i n))) load

-- a range with one loading order more
abbrev pub range_with : ℕ → OrderRange → OrderRange
range_with order range = record {
  lowest = cond (ltb order range.lowest) order range.lowest;
  highest = cond (ltb range.highest order) order range.highest;
}

-- the lowest and the highest of some loading orders. A truck has at most 8 plant docks, so no order is above 8, and 8 begins the lowest
unfoldable pub range_of : List ℕ → OrderRange
range_of [] = record { lowest = 8; highest = 0 }
range_of (order ∷ l) = range_with order (range_of l)

-- 25 order, P4: what is compared of two stacks, each with its truck's number and its load
unfoldable pub rank_of : Instance → ℕ → List ℕ → Rank
unfolding order_from range_of plant_dock_orders
rank_of i truck load =
    let bottom = item i (get_or load 0 0) in
    let range = range_of (plant_dock_orders i truck load) in
    record {
      supplier = IU bottom;
      dock = IK bottom;
      supplier_order = order_in (truck_numbered i truck).suppliers (IU bottom);
      dock_order = order_in (docks_of (truck_numbered i truck) (IU bottom)) (IK bottom);
      lowest = range.lowest;
      highest = range.highest;
    }

-- the plant docks of a load's items, from one place on
unfoldable pub plant_docks_from : Instance → List ℕ → ℕ → List ℕ
plant_docks_from i load from = map (λ n. IG (item i n)) (drop from load)
