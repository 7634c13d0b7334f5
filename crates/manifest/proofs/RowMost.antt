-- How large the fields of a row are.
use mathlib.Core.List.{List, [], ◌∷◌, map}
use Prim.Native.Nat.{ℕ, ◌≤◌, ◌<◌}
use native.Mathlib.Omega.{arith}
use lib.Dec.{eqb, ltb}
use lib.ListN.{length, length-map}
use Rattle.meaning.specs.declared.Limits.{Limits}
use Rattle.meaning.specs.Lists.{Every, order_in}
use Rattle.meaning.specs.Model.{Item, item, truck, truck_of, IG, IU, IK}
use Rattle.meaning.specs.Files.{docks_line}
use Rattle.meaning.specs.Measures.{bottom, docks_of, supplier_dock_order, plant_dock_order, plant_docks_of}
use Rattle.meaning.specs.Rules.{plant_dock_count}
use Rattle.meaning.specs.Table.{instance_in, stacks_in}
use Rattle.meaning.specs.Meets.{Meets}
use Rattle.meaning.proofs.Lists.{every_map, every_or, dedup_most}
use Rattle.meaning.proofs.Orders.{order_most}
use Rattle.table.specs.Filled.{Filled, stack_at}
use Rattle.table.proofs.Access.{stack_in_lem, stack_weight, stack_field_most}
use Rattle.views.specs.Views.{range_of, rank_of, plant_dock_orders}
use Rattle.views.proofs.Bounds.{either_most, entry_most, stack_truck_in, footprint_bounds, orders_bound, supplier_order_bound}
use Rattle.manifest.specs.Manifest.{row_of, RowWithin}

-- ---- lists
-- the range of loading orders up to 8
ranges_most : {A : Type 0} (f : A → ℕ) → ((a : A) → f a ≤ 8) → (l : List A) → ((range_of (map f l)).lowest ≤ 8) × ((range_of (map f l)).highest ≤ 8)
unfolding range_of
ranges_most f h [] = (omega arith, omega arith)
ranges_most f h (a ∷ l) =
    let rest = ranges_most f h l in
    let range = range_of (map f l) in
    (either_most (ltb (f a) range.lowest) (f a) _ 8 (h a) rest.0, either_most (ltb range.highest (f a)) (f a) _ 8 (h a) rest.1)

-- ---- the row of a stack of a filled table
module _ {m : Limits} {t : List ℕ} (h : Filled m t) (s : ℕ) (l : s < length (stacks_in m t)) where
  docks_most : plant_dock_count (instance_in m t) (stack_at (stacks_in m t) s) ≤ 64
  unfolding plant_docks_of
  docks_most =
      let load = (stack_at (stacks_in m t) s).load in
      let dock : ℕ → ℕ = λ n. IG (item (instance_in m t) n) in
      omega (arith, dedup_most eqb (map dock load), length-map load dock, (stack_in_lem h s l).few_entries)

  dock_order_most : (a : Item) → supplier_dock_order (instance_in m t) (stack_at (stacks_in m t) s) a ≤ 8
  dock_order_most a =
      let P : List ℕ → Type 0 = λ l. length l ≤ 8 in
      let carrier = truck_of (instance_in m t) (stack_at (stacks_in m t) s) in
      let each : Every P ([] ∷ carrier.docks) = (omega arith, every_map (Meets docks_line) P (λ l e. e.most) carrier.docks (stack_truck_in h s l).docks) in
      order_most 8 (docks_of carrier (IU a)) (IK a) (every_or P [] (omega arith) ([] ∷ carrier.docks) each (order_in carrier.suppliers (IU a)))

  range_most : let a = stack_at (stacks_in m t) s in
      let range = range_of (plant_dock_orders (instance_in m t) (truck a) a.load) in (range.lowest ≤ 8) × (range.highest ≤ 8)
  unfolding plant_dock_orders
  range_most =
      let a = stack_at (stacks_in m t) s in
      ranges_most (λ n. plant_dock_order (instance_in m t) a (item (instance_in m t) n)) (orders_bound h s l) a.load

  pub row_within : RowWithin (row_of (instance_in m t) (stacks_in m t) s)
  unfolding rank_of
  row_within =
      let a = stack_at (stacks_in m t) s in
      let b = stack_in_lem h s l in
      let own = stack_field_most h s l in
      let ground = footprint_bounds h s l in
      record {
        index = omega (arith, h.range.stack_count, h.bounded.words);
        number = own 0 (omega arith);
        truck = own 1 (omega arith);
        copy = own 2 (omega arith);
        x = ground.0;
        xe = ground.1;
        y = ground.2;
        ye = ground.3;
        weight = omega (arith, stack_weight h a b, b.few_entries);
        plant_docks = docks_most;
        supplier = entry_most h s l 0 13 b.some_entry (omega arith);
        dock = entry_most h s l 0 14 b.some_entry (omega arith);
        supplier_order = supplier_order_bound h s l;
        dock_order = dock_order_most (bottom (instance_in m t) a);
        lowest = range_most.0;
        highest = range_most.1;
      }
