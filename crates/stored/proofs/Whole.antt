-- All parts together tell whether some readable pair of files fills the table.
use mathlib.Core.Path.{◌≡◌, refl, sym, ap, ap₂, subst, ◌∙◌}
use mathlib.Core.Bool.{true}
use mathlib.Core.Option.{Option, none, some}
use mathlib.Core.List.{List, [], ◌++◌, map, flat_map, append_assoc, map-id}
use Prim.Native.Nat.{ℕ, zero, suc, ◌+◌, ◌-◌, ◌*◌, ◌≤◌, ◌<◌}
use native.Mathlib.Nat.{sub-zero, mul-le-mul_left}
use native.Mathlib.Omega.{arith}
use lib.Dec.{leb}
use lib.ListN.{length, get_or, take, drop, replicate, length-append, length-take, length-drop}
use lib.Seq.{take_at, take-add, take-take, get_or-take}
use Rattle.meaning.specs.declared.Limits.{Limits}
use Rattle.meaning.specs.declared.Place.{Place}
use Rattle.meaning.specs.Lists.{Every, all, between, chunks, padded}
use Rattle.meaning.specs.Limits.{named, items_at, trucks_at, stacks_at, loads_at}
use Rattle.meaning.specs.Model.{Instance, Stack, Item}
use Rattle.meaning.specs.Files.{item_line}
use Rattle.meaning.specs.Table.{head_words, truck_words, stack_words, load_entries, words, truck_in, instance_in, stack_in, stacks_in}
use Rattle.meaning.specs.Places.{lowest}
use Rattle.meaning.specs.Check.{code_clashes}
use Rattle.meaning.specs.Write.{instance_file, plan_file, stored}
use Rattle.meaning.specs.Meets.{Meets, TruckMeets, StacksMeet, FilesMeet}
use Rattle.meaning.specs.InRange.{Fits}
use Rattle.meaning.specs.Claims.{Readable, TenDigitLimits, FilledBy}
use Rattle.meaning.proofs.Tests.{true≢false, and_reads, le_reads, same_test}
use Rattle.meaning.proofs.Lists.{every_map}
use Rattle.meaning.proofs.Decode.{from_trucks, from_stacks, from_loads, long_table, items_begin, trucks_begin, stacks_begin, loads_begin}
use Rattle.meaning.proofs.Decode.{length_padded, length_runs, chunks_runs, truck_size, length_stack_words, decodes}
use Rattle.meaning.proofs.Ranges.{meets_fits, read_meets}
use Rattle.meaning.proofs.InRange.{files_in_range}
use Rattle.meaning.proofs.ReadFiles.{read_reads}
use Rattle.meaning.proofs.Clash.{no_clash_lem}
use Rattle.meaning.proofs.ReadExactly.{read_exactly_lem}
use Rattle.meaning.proofs.Short.{printed_short_lem}
use Rattle.meaning.proofs.TableAfter.{table_after_lem}
use Rattle.meaning.proofs.Stored.{stored_reads, filled_whole}
use Rattle.ranges.specs.Ranges.{head_range}
use Rattle.ranges.specs.Clashes.{items_in}
use Rattle.ranges.proofs.Clashes.{clashes_of}
use Rattle.table.proofs.Parts.{length_chunks, length_made}
use Rattle.stored.specs.Parts.{PrintRoom, zeros, rows_stored, head_stored, item_stored, truck_stored, entries_of, loads_stored}
use Rattle.stored.specs.Parts.{items_part, trucks_part, stacks_part, loads_part, nowhere, instance_stored, plan_stored, whole_stored}
use Rattle.stored.proofs.Packed.{chunks_front, packed, unpacked}
use Rattle.stored.proofs.Truck.{part_is, truck_up, truck_down}
use Rattle.stored.proofs.Parts.{rows_up, rows_down, items_up, items_down, head_reads, six}
use Rattle.stored.proofs.Stacks.{Stacked, stacks_up, stacks_down, loads_down, entries_most, chunks_wide, chunks_joined}

nowhere_reads : (o : Option Place) → nowhere o ≡ true → o ≡ none
nowhere_reads none e = refl
nowhere_reads (some q) e = absurd (true≢false (sym e))

-- the loads pass only where each row has
loads_reads : (items : ℕ) (ws : List ℕ) (o : Option ℕ) → loads_stored items ws o ≡ true
    → (total : ℕ) × (o ≡ some total) × (all (between 1 items) (take total ws) ≡ true) × (zeros (drop total ws) ≡ true)
unfolding loads_stored
loads_reads items ws none e = absurd (true≢false (sym e))
loads_reads items ws (some n) e = let h = (and_reads (all (between 1 items) (take n ws)) (zeros (drop n ws))).0 e in (n, refl, h.0, h.1)

-- ---- from the files to the words
module _ (m : Limits) (i : Instance) (p : List Stack) (met : FilesMeet m i p) (clear : lowest (code_clashes i) ≡ none) (beyond : List ℕ) where
  abbrev table : List ℕ
  table = long_table m i p beyond

  fits : Fits m i p
  fits = meets_fits m i p met

  counts_are : (get_or table 3 0 ≡ length i.items) × (get_or table 4 0 ≡ length i.trucks) × (get_or table 5 0 ≡ length p)
  unfolding words head_words
  counts_are = (refl, refl, refl)

  head_is : take 16 table ≡ padded 16 (head_words i p)
  unfolding words head_words
  head_is = refl

  items_are : items_part m table ≡ padded (16 * m.items) (flat_map (λ (a : Item). a) i.items)
  items_are = part_is (16 * m.items) _ (from_trucks m i p beyond) (length_runs 16 (λ (a : Item). a) m.items i.items fits.items fits.item_count) (items_begin m i p fits beyond)

  trucks_are : trucks_part m table ≡ padded (160 * m.trucks) (flat_map truck_words i.trucks)
  trucks_are =
      part_is (160 * m.trucks) _ (from_stacks m i p beyond)
      (length_runs 160 truck_words m.trucks i.trucks (every_map _ _ truck_size i.trucks fits.trucks) fits.truck_count) (trucks_begin m i p fits beyond)

  stacks_are : stacks_part m table ≡ padded (8 * m.stacks) (stack_words 0 p)
  stacks_are =
      part_is (8 * m.stacks) _ (from_loads m i p beyond)
      (length_padded (8 * m.stacks) (stack_words 0 p) (omega (arith, length_stack_words 0 p fits.stacks, fits.stack_count))) (stacks_begin m i p fits beyond)

  loads_are : loads_part m table ≡ padded m.loads (load_entries p)
  loads_are = part_is m.loads _ beyond (length_padded m.loads (load_entries p) fits.loads) (loads_begin m i p fits beyond)

  head_passes : head_stored m (take 16 table) ≡ true
  unfolding head_words all
  head_passes = ap (head_stored m) head_is ∙ (head_reads m (padded 16 (head_words i p))).1 (within, refl)
    where
      within : (k : ℕ) → k < 6 → ((head_range m k).low ≤ get_or (padded 16 (head_words i p)) k 0) × (get_or (padded 16 (head_words i p)) k 0 ≤ (head_range m k).high)
      within zero l = (omega arith, met.instance.head.αT)
      within (suc zero) l = (omega arith, met.instance.head.αI)
      within (suc (suc zero)) l = (omega arith, met.instance.head.αE)
      within (suc (suc (suc zero))) l = (met.instance.head.some_item, met.instance.head.item_count)
      within (suc (suc (suc (suc zero)))) l = (met.instance.head.some_truck, met.instance.head.truck_count)
      within (suc (suc (suc (suc (suc zero))))) l = (omega arith, met.stack_count)
      within (suc (suc (suc (suc (suc (suc k)))))) l = absurd (omega (arith, l))

  instance_passes : instance_stored m table ≡ true
  unfolding instance_stored
  instance_passes =
      let items = i.items in
      let row : rows_stored item_stored 16 (get_or table 3 0) (items_part m table) ≡ true =
      ap₂ (rows_stored item_stored 16) counts_are.0 items_are ∙ items_down items (16 * m.items) met.instance.items in
      let truck : rows_stored truck_stored 160 (get_or table 4 0) (trucks_part m table) ≡ true =
      ap₂ (rows_stored truck_stored 160) counts_are.1 trucks_are
      ∙ rows_down 160 truck_stored truck_in truck_words TruckMeets truck_down i.trucks (160 * m.trucks) met.instance.trucks in
      let held : chunks 16 (get_or table 3 0) (items_part m table) ≡ items =
      ap (λ (n : ℕ). chunks 16 n (items_part m table)) counts_are.0
      ∙ chunks_front 16 (length items) m.items (drop 16 table) fits.item_count
      ∙ chunks_runs 16 (λ (a : Item). a) m.items items fits.items (from_trucks m i p beyond) (items_begin m i p fits beyond) ∙ map-id items in
      let none-there = ap lowest (clashes_of i (get_or table 3 0) (items_part m table) (sym held)) ∙ clear in
      (and_reads _ _).1 (row, (and_reads _ _).1 (truck, ap nowhere none-there))

  plan_passes : plan_stored m table ≡ true
  unfolding plan_stored loads_stored
  plan_passes =
      let n = length (load_entries p) in
      let loads = padded m.loads (load_entries p) in
      let zs = replicate {A = ℕ} (8 * m.stacks - length (stack_words 0 p)) 0 in
      let rows : entries_of m.loads (get_or table 4 0) [] 0 (chunks 8 (get_or table 5 0) (stacks_part m table)) ≡ some n =
      ap₂ (λ (t : ℕ) (r : List (List ℕ)). entries_of m.loads t [] 0 r) counts_are.1 (ap₂ (chunks 8) counts_are.2 stacks_are)
      ∙ stacks_down m.loads (length i.items) (length i.trucks) [] 0 p zs met.stacks
      ∙ (let e : 0 + n ≡ n = omega arith in ap (λ (k : ℕ). some k) e) in
      let entries = ap (all (between 1 (length i.items))) (take_at (load_entries p) _ n refl) ∙ loads_down m.loads (length i.items) (length i.trucks) [] 0 p met.stacks in
      let told : loads_stored (get_or table 3 0) (loads_part m table) (entries_of m.loads (get_or table 4 0) [] 0 (chunks 8 (get_or table 5 0) (stacks_part m table))) ≡ true =
      ap₂ (λ (l : List ℕ) (o : Option ℕ). loads_stored (get_or table 3 0) l o) loads_are rows
      ∙ ap (λ (k : ℕ). loads_stored k loads (some n)) counts_are.0
      ∙ (and_reads _ _).1 (entries, unpacked m.loads (load_entries p)) in
      let behind : zeros (drop (8 * get_or table 5 0) (stacks_part m table)) ≡ true =
      ap₂ (λ (k : ℕ) (l : List ℕ). zeros (drop k l)) (ap (λ (k : ℕ). 8 * k) counts_are.2 ∙ sym (length_stack_words 0 p fits.stacks)) stacks_are
      ∙ unpacked (8 * m.stacks) (stack_words 0 p) in
      (and_reads _ _).1 (told, behind)

  whole_passes : whole_stored m table ≡ true
  unfolding whole_stored
  whole_passes =
      let long : named m ≤ length table = simp length-append (omega (arith, (decodes m i p fits).size)) in
      (and_reads _ _).1 ((le_reads (named m) (length table)).1 long, (and_reads _ _).1 (head_passes, (and_reads _ _).1 (instance_passes, plan_passes)))

-- ---- from the words to the files
module _ (m : Limits) (t : List ℕ) (e : whole_stored m t ≡ true) where
  abbrev i : Instance
  i = instance_in m t

  abbrev p : List Stack
  p = stacks_in m t

  -- what the tests say, part by part
  record Passes : Type 0 where
    room : named m ≤ length t
    head : head_stored m (take 16 t) ≡ true
    items : rows_stored item_stored 16 (get_or t 3 0) (items_part m t) ≡ true
    trucks : rows_stored truck_stored 160 (get_or t 4 0) (trucks_part m t) ≡ true
    clear : nowhere (lowest (code_clashes (items_in (get_or t 3 0) (items_part m t)))) ≡ true
    loads : loads_stored (get_or t 3 0) (loads_part m t) (entries_of m.loads (get_or t 4 0) [] 0 (chunks 8 (get_or t 5 0) (stacks_part m t))) ≡ true
    stacks : zeros (drop (8 * get_or t 5 0) (stacks_part m t)) ≡ true

  passes : Passes
  unfolding whole_stored instance_stored plan_stored
  passes =
      let a = (and_reads (leb (named m) (length t)) _).0 e in
      let b = (and_reads (head_stored m (take 16 t)) _).0 a.1 in
      let c = (and_reads (instance_stored m t) (plan_stored m t)).0 b.1 in
      let d = (and_reads (rows_stored item_stored 16 (get_or t 3 0) (items_part m t)) _).0 c.0 in
      let f = (and_reads (rows_stored truck_stored 160 (get_or t 4 0) (trucks_part m t)) _).0 d.1 in
      let g = (and_reads _ (zeros (drop (8 * get_or t 5 0) (stacks_part m t)))).0 c.1 in
      record { room = (le_reads (named m) (length t)).0 a.0; head = b.0; items = d.0; trucks = f.0; clear = f.1; loads = g.0; stacks = g.1 }

  -- the numbers of the head
  within : (k : ℕ) → k < 6 → ((head_range m k).low ≤ get_or t k 0) × (get_or t k 0 ≤ (head_range m k).high)
  within k l = rw (get_or-take 16 t k 0 (omega (arith, l))) at (((head_reads m (take 16 t)).0 passes.head).0 k l)

  -- the sizes of the parts
  items_size : length (items_part m t) ≡ 16 * m.items
  items_size = simp (length-take, length-drop) (omega (arith, passes.room))

  trucks_size : length (trucks_part m t) ≡ 160 * m.trucks
  trucks_size = simp (length-take, length-drop) (omega (arith, passes.room))

  stacks_size : length (stacks_part m t) ≡ 8 * m.stacks
  stacks_size = simp (length-take, length-drop) (omega (arith, passes.room))

  loads_size : length (loads_part m t) ≡ m.loads
  loads_size = simp (length-take, length-drop) (omega (arith, passes.room))

  -- what they hold
  items_held : chunks 16 (get_or t 3 0) (items_part m t) ≡ i.items
  unfolding instance_in
  items_held = chunks_front 16 (get_or t 3 0) m.items (drop 16 t) (within 3 (omega arith)).1

  trucks_held : map truck_in (chunks 160 (get_or t 4 0) (trucks_part m t)) ≡ i.trucks
  unfolding instance_in
  trucks_held = ap (map truck_in) (chunks_front 160 (get_or t 4 0) m.trucks (drop (trucks_at m) t) (within 4 (omega arith)).1)

  stacks_held : map (stack_in (drop (loads_at m) t)) (chunks 8 (get_or t 5 0) (stacks_part m t)) ≡ p
  unfolding stacks_in
  stacks_held = ap (map (stack_in (drop (loads_at m) t))) (chunks_front 8 (get_or t 5 0) m.stacks (drop (stacks_at m) t) (within 5 (omega arith)).1)

  items_count : length i.items ≡ get_or t 3 0
  items_count = ap length (sym items_held) ∙ length_chunks 16 (get_or t 3 0) (items_part m t)

  trucks_count : length i.trucks ≡ get_or t 4 0
  trucks_count = ap length (sym trucks_held) ∙ length_made truck_in 160 (get_or t 4 0) (trucks_part m t)

  stacks_count : length p ≡ get_or t 5 0
  stacks_count = ap length (sym stacks_held) ∙ length_made (stack_in (drop (loads_at m) t)) 8 (get_or t 5 0) (stacks_part m t)

  items_all : Every (Meets item_line) i.items × (padded (16 * m.items) (flat_map (λ (a : Item). a) i.items) ≡ items_part m t)
  items_all =
      rw (items_held, items_size) at (items_up (get_or t 3 0) (items_part m t) (omega (arith, items_size, mul-le-mul_left 16 (within 3 (omega arith)).1)) passes.items)

  trucks_all : Every TruckMeets i.trucks × (padded (160 * m.trucks) (flat_map truck_words i.trucks) ≡ trucks_part m t)
  trucks_all =
      rw (trucks_held, trucks_size) at (rows_up 160 truck_stored truck_in truck_words TruckMeets truck_up (get_or t 4 0) (trucks_part m t)
      (omega (arith, trucks_size, mul-le-mul_left 160 (within 4 (omega arith)).1)) passes.trucks)

  -- ---- the stacks
  abbrev rows : List (List ℕ)
  rows = chunks 8 (get_or t 5 0) (stacks_part m t)

  abbrev loads_on : List ℕ
  loads_on = drop (loads_at m) t

  abbrev asked : (total : ℕ) × (entries_of m.loads (get_or t 4 0) [] 0 rows ≡ some total)
      × (all (between 1 (get_or t 3 0)) (take total (loads_part m t)) ≡ true) × (zeros (drop total (loads_part m t)) ≡ true)
  asked = loads_reads (get_or t 3 0) (loads_part m t) _ passes.loads

  total_most : asked.0 ≤ m.loads
  total_most = entries_most m.loads (get_or t 3 0) (get_or t 4 0) [] 0 rows asked.0 (omega arith) asked.1

  front_same : take asked.0 (loads_part m t) ≡ take asked.0 loads_on
  front_same = take-take asked.0 m.loads loads_on total_most

  eights : 8 * get_or t 5 0 ≤ length (stacks_part m t)
  eights = omega (arith, stacks_size, mul-le-mul_left 8 (within 5 (omega arith)).1)

  stacked : Stacked m.loads (get_or t 3 0) (get_or t 4 0) loads_on asked.0 (omega (arith, total_most, passes.room, length-drop (loads_at m) t))
      (ap (all (between 1 (get_or t 3 0))) (sym front_same) ∙ asked.2) [] 0 rows
  stacked = stacks_up m.loads (get_or t 3 0) (get_or t 4 0) loads_on asked.0 _ _ [] 0 rows (chunks_wide 8 (get_or t 5 0) (stacks_part m t) eights) asked.1

  stacks_words : padded (8 * m.stacks) (stack_words 0 p) ≡ stacks_part m t
  stacks_words =
      let same = ap (stack_words 0) (sym stacks_held) ∙ stacked.words ∙ chunks_joined 8 (get_or t 5 0) (stacks_part m t) in
      ap₂ (λ (w : ℕ) (l : List ℕ). padded w l) (sym stacks_size) same ∙ packed (8 * get_or t 5 0) (stacks_part m t) eights passes.stacks

  loads_words : padded m.loads (load_entries p) ≡ loads_part m t
  loads_words =
      let same = ap load_entries (sym stacks_held) ∙ stacked.entries ∙ ap (λ (k : ℕ). take k loads_on) (sub-zero asked.0) ∙ sym front_same in
      ap₂ (λ (w : ℕ) (l : List ℕ). padded w l) (sym loads_size) same ∙ packed asked.0 (loads_part m t) (omega (arith, total_most, loads_size)) asked.3

  -- ---- both files
  met : FilesMeet m i p
  unfolding instance_in
  met =
      let items = within 3 (omega arith) in
      let trucks = within 4 (omega arith) in
      record {
        instance = record {
          head = record {
            αT = (within 0 (omega arith)).1;
            αI = (within 1 (omega arith)).1;
            αE = (within 2 (omega arith)).1;
            some_item = rw items_count items.0;
            item_count = rw items_count items.1;
            some_truck = rw trucks_count trucks.0;
            truck_count = rw trucks_count trucks.1;
          };
          items = items_all.0;
          trucks = trucks_all.0;
        };
        stack_count = rw stacks_count (within 5 (omega arith)).1;
        stacks = rw (items_count, trucks_count) (subst (StacksMeet m.loads (get_or t 3 0) (get_or t 4 0) [] 0) stacks_held stacked.meets);
      }

  head_words_lem : padded 16 (head_words i p) ≡ take 16 t
  unfolding head_words instance_in
  head_words_lem =
      let long : length (take 16 t) ≡ 16 = length-take 16 t ∙ omega (arith, passes.room) in
      let at : (k : ℕ) → k < 16 → get_or t k 0 ≡ get_or (take 16 t) k 0 = λ k l. sym (get_or-take 16 t k 0 l) in
      let same : head_words i p ≡ take 6 (take 16 t) =
      rw (items_count, trucks_count, stacks_count, at 0 (omega arith), at 1 (omega arith), at 2 (omega arith), at 3 (omega arith), at 4 (omega arith), at 5 (omega arith))
      (sym (six m (take 16 t) (omega (arith, long)))) in
      ap₂ (λ (w : ℕ) (l : List ℕ). padded w l) (sym long) same ∙ packed 6 (take 16 t) (omega (arith, long)) ((head_reads m (take 16 t)).0 passes.head).1

  words_are : words m i p ≡ take (named m) t
  unfolding words
  words_are =
      ap₂ ◌++◌ head_words_lem (ap₂ ◌++◌ items_all.1 (ap₂ ◌++◌ trucks_all.1 (ap₂ ◌++◌ stacks_words loads_words)))
      ∙ sym (take-add (loads_at m) m.loads t
      ∙ ap (λ (l : List ℕ). l ++ loads_part m t) (take-add (stacks_at m) (8 * m.stacks) t
      ∙ ap (λ (l : List ℕ). l ++ stacks_part m t) (take-add (trucks_at m) (160 * m.trucks) t
      ∙ ap (λ (l : List ℕ). l ++ trucks_part m t) (take-add items_at (16 * m.items) t)))
      ∙ simp append_assoc refl)

  pub whole_filled : PrintRoom m → FilledBy m t (instance_file m t) (plan_file m t)
  whole_filled room =
      let in_range = (files_in_range m i p).0 met in
      let short = printed_short_lem m i p in_range in
      let few : TenDigitLimits m = record {
        items = omega (arith, room.instance, room.bounded.bytes);
        trucks = omega (arith, room.instance, room.bounded.bytes);
        stacks = omega (arith, room.plan, room.bounded.bytes);
      } in
      let clear = sym (ap lowest (clashes_of i (get_or t 3 0) (items_part m t) (sym items_held))) ∙ nowhere_reads _ passes.clear in
      let read =
      (read_exactly_lem m few (instance_file m t) (plan_file m t) i p).1
      (record {
        printed = record { says = refl; stacks = refl };
        in_range = in_range;
        no_clash = (no_clash_lem i).0 clear;
        instance_bytes = omega (arith, short.0, room.instance);
        plan_bytes = omega (arith, short.1, room.plan);
      }) in
      let files : Readable m (instance_file m t) (plan_file m t) = record { says = i; stacks = p; read = read } in
      record { room = passes.room; files = files; fills = (table_after_lem m t (instance_file m t) (plan_file m t)).filled passes.room files ∙ words_are }

-- ---- both ways
pub whole_stored_lem : (m : Limits) → PrintRoom m → (t : List ℕ) → whole_stored m t ≡ stored m t
whole_stored_lem m room t =
    same_test (whole_stored m t) (stored m t) (
      (λ e. (stored_reads m t).1 (whole_filled m t e room)),
      (λ e.
          let h = (stored_reads m t).0 e in
          let f = h.files in
          let read = (read_reads m (instance_file m t) (plan_file m t) f.says f.stacks).0 f.read in
          subst (λ (l : List ℕ). whole_stored m l ≡ true) (filled_whole m t h)
          (whole_passes m f.says f.stacks (read_meets m (instance_file m t) (plan_file m t) f) read.no_clash (drop (named m) t))),
    )
