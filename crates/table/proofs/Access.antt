-- What a filled table gives to its accessors: numbers and lists of the model, in their bounds, among the words of an item, a truck, a stack.
use mathlib.Core.Path.{◌≡◌, refl, sym, ap, ◌∙◌}
use mathlib.Core.List.{List, []}
use Prim.Native.Nat.{ℕ, ◌+◌, ◌-◌, ◌*◌, ◌≤◌, ◌<◌}
use native.Mathlib.Nat.{mul-le-mul_left}
use native.Mathlib.Omega.{arith}
use lib.ListN.{length, get_or, drop, length-take}
use lib.Seq.{get_or-take, take-take}
use Rattle.meaning.specs.declared.Limits.{Limits}
use Rattle.meaning.specs.Limits.{loads_at}
use Rattle.meaning.specs.Lists.{Every, sum}
use Rattle.meaning.specs.Model.{Truck, Stack, item, no_truck, truck_numbered, IM}
use Rattle.meaning.specs.Files.{item_line}
use Rattle.meaning.specs.Measures.{sm, weight}
use Rattle.meaning.specs.Table.{truck_in, instance_in, stack_in, stacks_in, load_entries, truck_place, stack_place}
use Rattle.meaning.specs.Meets.{Meets, TruckMeets}
use Rattle.meaning.proofs.Lists.{every_at}
use Rattle.meaning.proofs.Sums.{sum_most, sum_factor, length_flat_map}
use Rattle.meaning.proofs.Ranges.{meets_fits}
use Rattle.table.specs.Filled.{Filled, LoadOfItems, no_stack, stack_at, ItemNumber, TruckNumber, docks_at_order, item_place, item_most, truck_most, stack_most}
use Rattle.table.proofs.Parts.{part, part_at, part_short, part_front, length_part, behind}
use Rattle.table.proofs.Bounds.{StackBounded, stacks_bounded, item_most_lem, truck_most_lem, stack_most_lem}
use Rattle.table.proofs.Words.{docks_row, item_row, truck_row, stack_row}

-- a list of a truck that stands behind its count, at place `at` of the truck's words, and has at most `most` entries
pub record BehindCount (list : Truck → List ℕ) (at most : ℕ) : Type 0 where
  pub inside : at + 1 + most < 160
  pub stands : (row : List ℕ) → list (truck_in row) ≡ behind at row
  pub short : (a : Truck) → TruckMeets a → length (list a) ≤ most

pub products_behind : BehindCount (λ a. a.products) 20 32
unfolding truck_in
products_behind = record { inside = omega arith; stands = λ row. refl; short = λ a r. r.products.most }

pub suppliers_behind : BehindCount (λ a. a.suppliers) 53 8
unfolding truck_in
suppliers_behind = record { inside = omega arith; stands = λ row. refl; short = λ a r. r.suppliers.most }

pub plant_docks_behind : BehindCount (λ a. a.plant_docks) 134 8
unfolding truck_in
plant_docks_behind = record { inside = omega arith; stands = λ row. refl; short = λ a r. r.plant_docks.most }

-- the entries of all loads, stack by stack
pub entries_length : (p : List Stack) → length (load_entries p) ≡ sum (λ (s : Stack). length s.load) p
unfolding load_entries
entries_length p = length_flat_map (λ (s : Stack). s.load) p

module _ {m : Limits} {t : List ℕ} (h : Filled m t) where
  -- ---- what the ranges say of one item, one truck, one stack
  pub item_in : (n : ℕ) → ItemNumber (instance_in m t) n → Meets item_line (item (instance_in m t) n)
  item_in n k = every_at (Meets item_line) (instance_in m t).items [] (n - 1) h.range.instance.items (omega (arith, k.0, k.1))

  pub truck_in_lem : (n : ℕ) → TruckNumber (instance_in m t) n → TruckMeets (truck_numbered (instance_in m t) n)
  truck_in_lem n k = every_at TruckMeets (instance_in m t).trucks no_truck (n - 1) h.range.instance.trucks (omega (arith, k.0, k.1))

  pub stacks_in_lem : Every (StackBounded (length (instance_in m t).items) (length (instance_in m t).trucks)) (stacks_in m t)
  stacks_in_lem = stacks_bounded m.loads _ _ [] 0 (stacks_in m t) h.range.stacks

  pub stack_in_lem : (s : ℕ) → s < length (stacks_in m t)
      → StackBounded (length (instance_in m t).items) (length (instance_in m t).trucks) (stack_at (stacks_in m t) s)
  stack_in_lem s l = every_at (StackBounded _ _) (stacks_in m t) no_stack s stacks_in_lem l

  -- ---- how much the stacks hold and weigh
  pub few_entries_lem : length (load_entries (stacks_in m t)) ≤ 65536
  few_entries_lem = omega (arith, (meets_fits m (instance_in m t) (stacks_in m t) h.range).loads, h.bounded.loads)

  -- k for each entry of the loads
  pub per_entry_most : (k : ℕ) → sum (λ (s : Stack). k * length s.load) (stacks_in m t) ≤ k * 65536
  per_entry_most k = rw (sum_factor k (λ (s : Stack). length s.load) (stacks_in m t), ← entries_length (stacks_in m t)) (mul-le-mul_left k few_entries_lem)

  -- a stack weighs at most 50000 for each entry of its load
  pub stack_weight : (s : Stack) → StackBounded (length (instance_in m t).items) (length (instance_in m t).trucks) s
      → sm (instance_in m t) s ≤ 50000 * length s.load
  unfolding weight
  stack_weight s b =
      let i = instance_in m t in
      sum_most (λ n. IM (item i n)) 0 50000 s.load (λ j k. item_most_lem (item i (get_or s.load j 0)) (item_in _ (b.entries j k)) 4 (omega arith))

  -- ---- the words of an item
  module _ {n : ℕ} (k : ItemNumber (instance_in m t) n) {words : List ℕ} (w : (words ≡ part (item_place n) 16 t) × (length words ≡ 16)) where
    pub item_whole : (words ≡ item (instance_in m t) n) × (length words ≡ 16)
    item_whole = (w.0 ∙ sym (item_row m t n k), w.1)

    pub item_read : (f : ℕ) → f < 16 → (get_or words f 0 ≡ get_or (item (instance_in m t) n) f 0) × (get_or words f 0 ≤ item_most f)
    item_read f l = rw (item_whole.0) (refl, item_most_lem (item (instance_in m t) n) (item_in n k) f l)

  -- ---- the words of a truck
  module _ {n : ℕ} (k : TruckNumber (instance_in m t) n) {words : List ℕ} (w : (words ≡ part (truck_place m n) 160 t) × (length words ≡ 160)) where
    truck_is : truck_numbered (instance_in m t) n ≡ truck_in words
    truck_is = rw (w.0) (truck_row m t n k)

    pub truck_read : (f : ℕ) → f < 20 → (get_or words f 0 ≡ get_or (truck_numbered (instance_in m t) n).fields f 0) × (get_or words f 0 ≤ truck_most f)
    unfolding truck_in
    truck_read f l =
        let same : get_or words f 0 ≡ get_or (truck_numbered (instance_in m t) n).fields f 0 =
        sym (ap (λ (a : Truck). get_or a.fields f 0) truck_is ∙ get_or-take 20 words f 0 l)
        in
        (same, rw same (truck_most_lem (truck_numbered (instance_in m t) n).fields (truck_in_lem n k).fields f l))

    pub truck_whole : {r : List ℕ} → (r ≡ part 0 20 words) × (length r ≡ 20)
        → (r ≡ (truck_numbered (instance_in m t) n).fields) × (length r ≡ 20)
    unfolding truck_in
    truck_whole front = (front.0 ∙ sym (ap (λ (a : Truck). a.fields) truck_is), front.1)

    -- a list that stands behind its count
    module _ {list : Truck → List ℕ} {at most : ℕ} (l : BehindCount list at most) where
      list_is : list (truck_numbered (instance_in m t) n) ≡ behind at words
      list_is = ap list truck_is ∙ l.stands words

      list_count : get_or words at 0 ≤ most
      list_count = part_short (at + 1) (get_or words at 0) most words (omega (arith, w.1, l.inside)) (rw list_is at (l.short _ (truck_in_lem n k)))

      pub list_room : (at < length words) × (at + 1 + get_or words at 0 ≤ length words)
      list_room = omega (arith, w.1, l.inside, list_count)

      pub list_read : {r : List ℕ} → r ≡ behind at words → (r ≡ list (truck_numbered (instance_in m t) n)) × (length r ≤ most)
      list_read stands = let same = stands ∙ sym list_is in (same, rw same (l.short _ (truck_in_lem n k)))

    -- the docks of the supplier at place j: the words of its row, as far as its count says
    module _ (j : ℕ) (first : 1 ≤ j) (listed : j ≤ length (truck_numbered (instance_in m t) n).suppliers) where
      few_suppliers : j ≤ 8
      few_suppliers = omega (arith, listed, (truck_in_lem n k).suppliers.most)

      pub docks_room : (length words ≡ 160) × (j - 1 < 8) × (get_or words (62 + (j - 1)) 0 ≤ 8)
      docks_room =
          let few = few_suppliers in
          let place : truck_place m n + (62 + (j - 1)) ≡ truck_place m n + 62 + (j - 1) = omega arith in
          (w.1, omega arith, rw (w.0, part_at (truck_place m n) 160 (62 + (j - 1)) t 0 (omega arith), place) (h.docks n (j - 1) k (omega arith)))

      pub docks_read : {r : List ℕ} → r ≡ part (70 + 8 * (j - 1)) (get_or words (62 + (j - 1)) 0) words
          → (r ≡ docks_at_order (truck_numbered (instance_in m t) n) j) × (length r ≤ 8)
      docks_read stands =
          let few = docks_room.2 in
          let count = list_count suppliers_behind in
          let size = ap length (list_is suppliers_behind) ∙ length_part 54 (get_or words 53 0) words (omega (arith, w.1)) in
          let row = docks_row words (j - 1) w.1 count (omega arith) ∙ take-take _ 8 (drop (70 + 8 * (j - 1)) words) few in
          let same = stands ∙ sym (ap (λ (a : Truck). docks_at_order a j) truck_is ∙ row) in
          (same, rw stands (simp length-take (omega (arith, few))))

  -- ---- the words of a stack
  pub stack_field_most : (s : ℕ) → s < length (stacks_in m t) → (f : ℕ) → f < 6 → get_or (stack_at (stacks_in m t) s).fields f 0 ≤ stack_most f
  stack_field_most s k = stack_most_lem _ _ (stack_at (stacks_in m t) s) (stack_in_lem s k) (omega (arith, h.range.instance.head.truck_count, h.bounded.words))

  pub load_in : (s : ℕ) → s < length (stacks_in m t) → LoadOfItems (instance_in m t) (stack_at (stacks_in m t) s).load
  load_in s k = let b = stack_in_lem s k in record { some = b.some_entry; few = b.few_entries; entries = b.entries }

  module _ {s : ℕ} (k : s < length (stacks_in m t)) {words : List ℕ} (w : (words ≡ part (stack_place m s) 8 t) × (length words ≡ 8)) where
    stack_is : stack_at (stacks_in m t) s ≡ stack_in (drop (loads_at m) t) words
    stack_is = rw (w.0) (stack_row m t s k)

    pub stack_read : (f : ℕ) → f < 6 → (get_or words f 0 ≡ get_or (stack_at (stacks_in m t) s).fields f 0) × (get_or words f 0 ≤ stack_most f)
    unfolding stack_in
    stack_read f l =
        let same : get_or words f 0 ≡ get_or (stack_at (stacks_in m t) s).fields f 0 =
        sym (ap (λ (a : Stack). get_or a.fields f 0) stack_is ∙ get_or-take 6 words f 0 l)
        in
        (same, rw same (stack_field_most s k f l))

    pub stack_whole : {r : List ℕ} → (r ≡ part 0 6 words) × (length r ≡ 6) → (r ≡ (stack_at (stacks_in m t) s).fields) × (length r ≡ 6)
    unfolding stack_in
    stack_whole front = (front.0 ∙ sym (ap (λ (a : Stack). a.fields) stack_is), front.1)

    -- its load stands within the words of the loads
    pub load_room : get_or words 6 0 + get_or words 7 0 ≤ m.loads
    load_room = rw (w.0, part_at (stack_place m s) 8 6 t 0 (omega arith), part_at (stack_place m s) 8 7 t 0 (omega arith)) (h.loads s k)

    pub load_read : {loads r : List ℕ} → loads ≡ part (loads_at m) m.loads t → r ≡ part (get_or words 6 0) (get_or words 7 0) loads
        → (r ≡ (stack_at (stacks_in m t) s).load) × LoadOfItems (instance_in m t) r
    unfolding stack_in
    load_read el er =
        let same = er ∙ rw el (part_front (get_or words 6 0) (get_or words 7 0) m.loads (drop (loads_at m) t) load_room) ∙ sym (ap (λ (a : Stack). a.load) stack_is) in
        (same, rw same (load_in s k))

  -- its truck
  pub truck_of_lem : (s : ℕ) → s < length (stacks_in m t) → (r : ℕ) → r ≡ get_or (stack_at (stacks_in m t) s).fields 1 0
      → (r ≡ get_or (stack_at (stacks_in m t) s).fields 1 0) × TruckNumber (instance_in m t) r
  truck_of_lem s k r e = (e, rw e ((stack_in_lem s k).within 1 (omega arith)))
