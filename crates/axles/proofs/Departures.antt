-- The places of a used truck where a rule on weights is broken, as the loop over its departures finds them.
use mathlib.Core.Path.{◌≡◌, refl, sym, ap, ap₂, ◌∙◌}
use mathlib.Core.Bool.{Bool, not, ◌&&◌}
use mathlib.Core.List.{List, map, flat_map, append-nil}
use Prim.Native.Nat.{ℕ, ◌+◌, ◌-◌, ◌≤◌, ◌<◌}
use native.Mathlib.Omega.{arith}
use lib.Dec.{leb}
use lib.ListN.{length, get_or}
use Rattle.std.specs.Prelude.{Option, None}
use Rattle.meaning.specs.declared.Limits.{Limits}
use Rattle.meaning.specs.declared.Place.{Place}
use Rattle.meaning.specs.Lists.{only_if, up_from}
use Rattle.meaning.specs.Places.{place}
use Rattle.meaning.specs.Model.{Instance, Truck, Stack, truck_numbered, TMm}
use Rattle.meaning.specs.Measures.{UsedTruck, used_by, stacks_at_departure, departures, weight_on, H}
use Rattle.meaning.specs.Rules.{truck_places, departure_places, counts, within_load_limit, middle_axle_holds, rear_axle_holds}
use Rattle.meaning.specs.Table.{instance_in, stacks_in}
use Rattle.meaning.proofs.Lists.{flat_map_agree, length_up_from, up_from_at}
use Rattle.search.specs.Lowest.{lowest_in, place_cmp, lower_by}
use Rattle.search.proofs.Lowest.{LowestFrom, from_start, from_more, from_end}
use Rattle.manifest.specs.Manifest.{manifest_at, block, HoldsRows, OneTruck}
use Rattle.manifest.specs.declared.Block.{Block}
use Rattle.manifest.specs.declared.row.Row.{Row}
use Rattle.manifest.proofs.UsedTrucks.{block_length, block_used, used_one, all_on}
use Rattle.axles.specs.declared.AxleData.{AxleData}
use Rattle.axles.specs.Weights.{is_on, weight_of, axle_data, middle_holds, rear_holds}
use Rattle.axles.specs.Weights.{middle_under, rear_under, exceeds, LowestPlaces}
use Rattle.axles.proofs.Rows.{counts_if, nth_row, weights_are, levers_are, on_places, on_rows, on_stacks, loaded, places, loaded_rows, loaded_stacks}

-- a test of an axle under some stacks
abbrev pub Test : Type 0
Test = AxleData → List Row → Bool

-- the place of a departure at which an axle is exceeded
unfoldable pub exceeded_at : Test → List Row → AxleData → UsedTruck → ℕ → List Place
exceeded_at holds rows a u departure = only_if (exceeds holds rows a departure) (place u.truck u.copy departure)

-- ---- from the last departure down: `found` is the lowest place of those after the current one
pub record AxleFrom (holds : Test) (rows : List Row) (a : AxleData) (u : UsedTruck) (last departure : ℕ) (found : Option Place) : Type 0 where
  pub lowest : LowestFrom (exceeded_at holds rows a u) (up_from 1 last) departure found

module _ {holds : Test} {rows : List Row} {a : AxleData} {u : UsedTruck} {last : ℕ} where
  pub axle_start : AxleFrom holds rows a u last last None
  axle_start = record { lowest = from_start (sym (length_up_from 1 last)) }

  -- one departure more
  pub axle_more : {departure : ℕ} {found here lower : Option Place} {exceeded : Bool} → AxleFrom holds rows a u last departure found → 0 < departure
      → exceeded ≡ exceeds holds rows a (departure - 1 + 1) → here ≡ lowest_in (only_if exceeded (place u.truck u.copy (departure - 1 + 1)))
      → lower ≡ lower_by place_cmp here found → AxleFrom holds rows a u last (departure - 1) lower
  unfolding exceeded_at
  axle_more {departure} h some e ep el =
      let inside : departure - 1 < last = omega (arith, h.lowest.down.upto, length_up_from 1 last) in
      let there : departure - 1 + 1 ≡ get_or (up_from 1 last) (departure - 1) 0 = omega (arith, up_from_at 1 last (departure - 1) 0 inside) in
      record { lowest = from_more 0 h.lowest some there (rw e at ep) el }

-- ---- the rules, as the rows of the used truck have them
module _ {m : Limits} {t : List ℕ} {rows : List Row} (h : HoldsRows m t rows) {on : Block} (one : OneTruck (stacks_in m t) on.start on.end) where
  abbrev i : Instance
  i = instance_in m t

  abbrev p : List Stack
  p = stacks_in m t

  -- the used truck, its truck and its stacks
  abbrev used : UsedTruck
  used = used_by (manifest_at p on.start)

  abbrev truck : Truck
  truck = truck_numbered i used.truck

  abbrev stacks : List Stack
  stacks = block p on.start on.end

  some : 0 < length stacks
  some = omega (arith, block_length one, one.some)

  -- their rows, and the places of both
  abbrev pub rows_on : List Row
  rows_on = loaded h one

  abbrev at : List ℕ
  at = places h one

  -- 26
  overload_is : only_if (not (leb (weight_of rows_on) (TMm truck))) (place used.truck used.copy 0) ≡ truck_places within_load_limit i stacks
  unfolding truck_places flat_map within_load_limit weight_on
  overload_is =
      rw (used_one used stacks some (block_used one), all_on used stacks (block_used one), append-nil, loaded_stacks h one, loaded_rows h one, weights_are h at) refl

  -- 27 and 28: what the code tests at a departure is what the rule tests
  module _ (holds : Test) (kept : Instance → Truck → List Stack → Bool)
      (same : (places : List ℕ) → holds (axle_data truck) (map (nth_row h) places) ≡ kept i truck (map (manifest_at p) places)) where
    exceeded_is : (departure : ℕ) → exceeds holds rows_on (axle_data truck) departure
        ≡ (counts (stacks_at_departure i stacks used departure) && not (kept i truck (stacks_at_departure i stacks used departure)))
    unfolding stacks_at_departure
    exceeded_is departure =
        rw (all_on used stacks (block_used one), loaded_stacks h one, loaded_rows h one, on_stacks h departure at, on_rows h departure at)
        (ap₂ (λ n b. n && not b) (counts_if (nth_row h) (manifest_at p) (is_on departure) at) (same (on_places h departure at)))

    departures_are : flat_map (exceeded_at holds rows_on (axle_data truck) used) (departures i used) ≡ departure_places kept i stacks
    unfolding departure_places flat_map exceeded_at
    departures_are =
        flat_map_agree (exceeded_at holds rows_on (axle_data truck) used) _ (departures i used)
        (λ departure e. ap (λ b. only_if b (place used.truck used.copy departure)) (exceeded_is departure))
        ∙ rw (used_one used stacks some (block_used one), append-nil) refl

  middle_same : (places : List ℕ) → middle_under (axle_data truck) (map (nth_row h) places) ≡ middle_axle_holds i truck (map (manifest_at p) places)
  unfolding middle_holds middle_axle_holds H
  middle_same places = rw (levers_are h truck places) refl

  rear_same : (places : List ℕ) → rear_under (axle_data truck) (map (nth_row h) places) ≡ rear_axle_holds i truck (map (manifest_at p) places)
  unfolding rear_holds rear_axle_holds H weight_on
  rear_same places = rw (levers_are h truck places, weights_are h places) refl

  -- all three, of what was read
  pub lowest_are : {a : AxleData} {u : UsedTruck} {last departure weight limit : ℕ} {overload middle rear : Option Place} → u ≡ used
      → a ≡ axle_data (truck_numbered i u.truck) → last ≡ length (truck_numbered i u.truck).suppliers
      → weight ≡ weight_of rows_on → limit ≡ TMm (truck_numbered i u.truck)
      → overload ≡ lowest_in (only_if (not (leb weight limit)) (place u.truck u.copy 0))
      → AxleFrom middle_under rows_on a u last departure middle → AxleFrom rear_under rows_on a u last departure rear → departure ≤ 0
      → LowestPlaces i stacks (record { overload = overload; middle = middle; rear = rear })
  lowest_are eu ea en ew el eo fm fr none =
      record {
        overload = eo ∙ rw (ew, el, eu) (ap lowest_in overload_is);
        middle = from_end fm.lowest none ∙ rw (en, ea, eu) (ap lowest_in (departures_are middle_under middle_axle_holds middle_same));
        rear = from_end fr.lowest none ∙ rw (en, ea, eu) (ap lowest_in (departures_are rear_under rear_axle_holds rear_same));
      }
