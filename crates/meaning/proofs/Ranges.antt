-- What two files are read as meets the forms of its lines, so it is in range and has room in the table.
use mathlib.Core.Path.{◌≡◌}
use mathlib.Core.List.{List, [], ◌∷◌, flat_map}
use Prim.Native.Nat.{ℕ, ◌+◌, ◌≤◌}
use native.Mathlib.Omega.{arith}
use lib.Dec.{leb}
use lib.ListN.{length, length-append}
use Rattle.meaning.specs.declared.Limits.{Limits}
use Rattle.meaning.specs.Lists.{Every, all, between}
use Rattle.meaning.specs.Model.{Instance, Truck, Stack, number}
use Rattle.meaning.specs.Files.{item_line, docks_line}
use Rattle.meaning.specs.Table.{load_entries}
use Rattle.meaning.specs.Meets.{Meets, TruckMeets, StacksMeet, FilesMeet}
use Rattle.meaning.specs.InRange.{TruckFits, Fits}
use Rattle.meaning.specs.Claims.{Readable, ReadInRange, ReadFits}
use Rattle.meaning.proofs.Tests.{and_reads, le_reads}
use Rattle.meaning.proofs.Lists.{every_map}
use Rattle.meaning.proofs.Printed.{read_off}
use Rattle.meaning.proofs.InRange.{files_in_range}

pub read_meets : (m : Limits) (instance plan : List ℕ) (r : Readable m instance plan) → FilesMeet m r.says r.stacks
read_meets m instance plan r = (read_off m instance plan r).0

pub read_in_range_lem : (m : Limits) → ReadInRange m
read_in_range_lem m instance plan r = (files_in_range m r.says r.stacks).0 (read_meets m instance plan r)

-- ---- what meets the forms has room in the table
pub truck_fits : (t : Truck) → TruckMeets t → TruckFits t
truck_fits t h =
    record {
      fields = omega (arith, h.fields.least, h.fields.most);
      products = h.products.most;
      suppliers = h.suppliers.most;
      dock_lines = h.dock_lines;
      docks = every_map (Meets docks_line) _ (λ d k. k.most) t.docks h.docks;
      plant_docks = h.plant_docks.most;
    }

module _ (most items trucks : ℕ) where
  -- every stack has its six fields
  stacks_fit : (earlier : List ℕ) (loaded : ℕ) (p : List Stack) → StacksMeet most items trucks earlier loaded p → Every (λ (s : Stack). length s.fields ≡ 6) p
  stacks_fit earlier loaded [] h = tt
  stacks_fit earlier loaded (s ∷ p) h = (omega (arith, h.0.least, h.0.most), stacks_fit (number s ∷ earlier) (loaded + length s.load) p h.2)

  -- the loads together hold at most `most` entries: the last load's test says so
  loads_fit : (earlier : List ℕ) (loaded : ℕ) (p : List Stack) → loaded ≤ most → StacksMeet most items trucks earlier loaded p → loaded + length (load_entries p) ≤ most
  unfolding load_entries flat_map
  loads_fit earlier loaded [] k h = omega arith
  loads_fit earlier loaded (s ∷ p) k h =
      let room = (le_reads (loaded + length s.load) most).0 ((and_reads (all (between 1 items) s.load) (leb (loaded + length s.load) most)).0 h.1.fits).1 in
      let rest = loads_fit (number s ∷ earlier) (loaded + length s.load) p room h.2 in
      omega (arith, rest, length-append s.load (load_entries p))

pub meets_fits : (m : Limits) (i : Instance) (p : List Stack) → FilesMeet m i p → Fits m i p
meets_fits m i p h =
    let items = length i.items in
    let trucks = length i.trucks in
    record {
      item_count = h.instance.head.item_count;
      items = every_map (Meets item_line) _ (λ a k. omega (arith, k.least, k.most)) i.items h.instance.items;
      truck_count = h.instance.head.truck_count;
      trucks = every_map TruckMeets TruckFits truck_fits i.trucks h.instance.trucks;
      stack_count = h.stack_count;
      stacks = stacks_fit m.loads items trucks [] 0 p h.stacks;
      loads = omega (arith, loads_fit m.loads items trucks [] 0 p (omega arith) h.stacks);
    }

pub read_fits : (m : Limits) → ReadFits m
read_fits m instance plan r = meets_fits m r.says r.stacks (read_meets m instance plan r)
