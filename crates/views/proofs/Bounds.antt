-- How large what the rules see of a stack can be, for sums and products of it.
use mathlib.Core.Path.{◌≡◌, refl}
use mathlib.Core.Bool.{Bool, true, false, cond}
use mathlib.Core.List.{List}
use Prim.Native.Nat.{ℕ, ◌≤◌, ◌<◌}
use native.Mathlib.Omega.{arith}
use lib.Dec.{eqb}
use lib.ListN.{length, get_or}
use Rattle.meaning.specs.declared.Limits.{Limits}
use Rattle.meaning.specs.Model.{item, truck, truck_of, x, y, orientation}
use Rattle.meaning.specs.Table.{instance_in, stacks_in}
use Rattle.meaning.specs.Meets.{TruckMeets}
use Rattle.meaning.specs.Measures.{sl, sw, xe, ye, supplier_order, plant_dock_order}
use Rattle.meaning.proofs.Orders.{order_most}
use Rattle.table.specs.Filled.{Filled, stack_at, item_most}
use Rattle.table.proofs.Bounds.{item_most_lem}
use Rattle.table.proofs.Access.{item_in, truck_in_lem, stack_in_lem}
use Rattle.views.specs.declared.Extent.{Extent}
use Rattle.views.specs.Views.{position_of, PositionInRange, extent_of}

pub either_most : (b : Bool) (u v most : ℕ) → u ≤ most → v ≤ most → cond b u v ≤ most
either_most true u v most h k = h
either_most false u v most h k = k

-- each extent of a stack is the length or the width of its bottom item
pub extent_most : (length width orientation most : ℕ) {extent : Extent} → extent ≡ extent_of length width orientation → length ≤ most → width ≤ most
    → (extent.along ≤ most) × (extent.across ≤ most)
extent_most length width orientation most e long wide =
    rw e (either_most (eqb orientation 1) length width most long wide, either_most (eqb orientation 1) width length most wide long)

module _ {m : Limits} {t : List ℕ} (h : Filled m t) (s : ℕ) (l : s < length (stacks_in m t)) where
  -- a field of an item of the load
  pub entry_most : (j f : ℕ) → j < length (stack_at (stacks_in m t) s).load → f < 16
      → get_or (item (instance_in m t) (get_or (stack_at (stacks_in m t) s).load j 0)) f 0 ≤ item_most f
  entry_most j f k b = item_most_lem _ (item_in h _ ((stack_in_lem h s l).entries j k)) f b

  pub stack_truck_in : TruckMeets (truck_of (instance_in m t) (stack_at (stacks_in m t) s))
  stack_truck_in = truck_in_lem h (truck (stack_at (stacks_in m t) s)) ((stack_in_lem h s l).within 1 (omega arith))

  pub position_in : PositionInRange (position_of (stack_at (stacks_in m t) s))
  position_in =
      let within = (stack_in_lem h s l).within in
      record { x = (within 3 (omega arith)).1; y = (within 4 (omega arith)).1; turned = within 5 (omega arith) }

  pub footprint_bounds : let i = instance_in m t in let a = stack_at (stacks_in m t) s in (x a ≤ 20000) × (xe i a ≤ 40000) × (y a ≤ 20000) × (ye i a ≤ 40000)
  footprint_bounds =
      let i = instance_in m t in
      let a = stack_at (stacks_in m t) s in
      let b = stack_in_lem h s l in
      let long = entry_most 0 0 b.some_entry (omega arith) in
      let wide = entry_most 0 1 b.some_entry (omega arith) in
      let extent = extent_most (sl i a) (sw i a) (orientation a) 20000 refl long wide in
      (position_in.x, omega (arith, position_in.x), position_in.y, omega (arith, position_in.y))

  pub orders_bound : (n : ℕ) → plant_dock_order (instance_in m t) (stack_at (stacks_in m t) s) (item (instance_in m t) n) ≤ 8
  orders_bound n = order_most 8 _ _ stack_truck_in.plant_docks.most

  pub supplier_order_bound : supplier_order (instance_in m t) (stack_at (stacks_in m t) s) ≤ 8
  supplier_order_bound = order_most 8 _ _ stack_truck_in.suppliers.most
