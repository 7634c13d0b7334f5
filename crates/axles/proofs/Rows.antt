-- What the rows of a used truck say of its stacks: their sums, those that are on at a departure, and the bounds that the sums lean on.
use mathlib.Core.Path.{◌≡◌, refl, sym, ap, ap₂, ◌∙◌}
use mathlib.Core.Bool.{Bool, true, false, cond, ◌||◌}
use mathlib.Core.List.{List, [], ◌∷◌, map}
use Prim.Native.Nat.{ℕ, zero, suc, ◌+◌, ◌-◌, ◌*◌, ◌≤◌, ◌<◌}
use native.Mathlib.Omega.{arith}
use lib.IntN.{◌+ℤ◌}
use lib.ListN.{length, get_or, take, drop}
use lib.Seq.{drop-cons}
use Rattle.std.proofs.lemmas.List.{get_or-take, get_or-drop}
use Rattle.meaning.specs.declared.Limits.{Limits}
use Rattle.meaning.specs.Lists.{any, filter, up_from, order_from, between, sum, sumℤ}
use Rattle.meaning.specs.Model.{Instance, Truck, Stack, truck_numbered}
use Rattle.meaning.specs.Measures.{UsedTruck, used_by, supplier_order, sm, lever}
use Rattle.meaning.specs.Rules.{counts}
use Rattle.meaning.specs.Table.{instance_in, stacks_in}
use Rattle.meaning.proofs.Lists.{every_reads}
use Rattle.meaning.proofs.Sums.{sum_take, sum_drop, sum_below}
use Rattle.meaning.proofs.Permute.{sum_perm}
use Rattle.table.specs.Filled.{Filled, TruckNumber, no_stack}
use Rattle.table.proofs.Access.{stacks_in_lem, truck_in_lem, per_entry_most, stack_weight}
use Rattle.table.proofs.Bounds.{truck_most_lem}
use Rattle.views.specs.Views.{rank_of}
use Rattle.manifest.specs.Manifest.{manifest_order, manifest_at, in_manifest, block, row_of, row_at, no_row, HoldsRows, OneTruck}
use Rattle.manifest.specs.declared.Block.{Block}
use Rattle.manifest.specs.declared.row.Row.{Row}
use Rattle.manifest.proofs.Order.{manifest_length, manifest_at_lem, manifest_perm}
use Rattle.manifest.proofs.Reading.{row_is, row_most, truck_is}
use Rattle.axles.specs.Weights.{is_on, on_at, weight_of, lever_by, levers_of, BoundedRows, axle_data, BoundedAxles}

-- ---- lists that are made of other lists
map_if : {A B : Type 0} (f : A → B) (b : Bool) (a : A) (l : List A) → map f (cond b (a ∷ l) l) ≡ cond b (f a ∷ map f l) (map f l)
map_if f true a l = refl
map_if f false a l = refl

filter_map : {A B : Type 0} (f : A → B) (test : B → Bool) (l : List A) → filter test (map f l) ≡ map f (filter (λ a. test (f a)) l)
unfolding filter
filter_map f test [] = refl
filter_map f test (a ∷ l) = rw (filter_map f test l, map_if f (test (f a)) a (filter (λ a. test (f a)) l)) refl

take_most : {A : Type 0} (n : ℕ) (l : List A) → length (take n l) ≤ n
take_most zero l = omega arith
take_most (suc n) [] = omega arith
take_most (suc n) (a ∷ l) = omega (arith, take_most n l)

-- a departure counts where a stack is on
pub counts_if : {A : Type 0} (f : A → Row) (g : A → Stack) (test : Row → Bool) (l : List A)
    → any test (map f l) ≡ counts (map g (filter (λ a. test (f a)) l))
unfolding any filter
counts_if f g test [] = refl
counts_if {A} f g test (a ∷ l) = go (test (f a)) (counts_if f g test l)
  where
    on : List A
    on = filter (λ a. test (f a)) l

    go : (b : Bool) → any test (map f l) ≡ counts (map g on) → (b || any test (map f l)) ≡ counts (map g (cond b (a ∷ on) on))
    go true e = refl
    go false e = e

-- a block, by its places
pub block_places : (p : List Stack) (k n : ℕ) → k + n ≤ length p → take n (drop k (in_manifest p)) ≡ map (manifest_at p) (up_from k n)
unfolding up_from
block_places p k zero h = refl
block_places p k (suc n) h =
    let inside : k < length (in_manifest p) = rw (manifest_length p) (omega arith) in
    rw (drop-cons (in_manifest p) k no_stack inside) (ap₂ ◌∷◌ (manifest_at_lem p k (omega arith)) (block_places p (suc k) n (omega arith)))

-- ---- trucks
pub axles_bounded : {m : Limits} {t : List ℕ} → Filled m t → {n : ℕ} → TruckNumber (instance_in m t) n → BoundedAxles (axle_data (truck_numbered (instance_in m t) n))
axles_bounded {m} {t} filled {n} known =
    let field = truck_most_lem (truck_numbered (instance_in m t) n).fields (truck_in_lem filled n known).fields in
    record {
      cm = field 10 (omega arith);
      cjfm = field 11 (omega arith);
      cjfc = field 12 (omega arith);
      cjfh = field 13 (omega arith);
      em = field 14 (omega arith);
      ejhr = field 15 (omega arith);
      ejcr = field 16 (omega arith);
      emmr = field 18 (omega arith);
      emmm = field 19 (omega arith);
      twice = omega (arith, field 15 (omega arith), field 17 (omega arith));
    }

module _ {m : Limits} {t : List ℕ} {rows : List Row} (h : HoldsRows m t rows) where
  -- the instance and the plan
  abbrev i : Instance
  i = instance_in m t

  abbrev p : List Stack
  p = stacks_in m t

  -- the row of the stack at place k of the manifest
  abbrev pub nth_row : ℕ → Row
  nth_row k = row_of i p (get_or (manifest_order p) k 0)

  -- the rows of a block, by its places
  pub block_rows : (k n : ℕ) → k + n ≤ length p → take n (drop k rows) ≡ map nth_row (up_from k n)
  unfolding up_from
  block_rows k zero l = refl
  block_rows k (suc n) l =
      rw (drop-cons rows k no_row (omega (arith, h.room))) (ap₂ ◌∷◌ (row_is h k (omega arith)) (block_rows (suc k) n (omega arith)))

  -- ---- sums over rows are sums over stacks
  pub weights_are : (places : List ℕ) → weight_of (map nth_row places) ≡ sum (sm i) (map (manifest_at p) places)
  unfolding sum
  weights_are [] = refl
  weights_are (k ∷ places) = ap (λ n. sm i (manifest_at p k) + n) (weights_are places)

  pub levers_are : (truck : Truck) (places : List ℕ) → levers_of (axle_data truck).twice (map nth_row places) ≡ sumℤ (lever i truck) (map (manifest_at p) places)
  unfolding sumℤ lever_by lever
  levers_are truck [] = refl
  levers_are truck (k ∷ places) = ap (λ z. lever i truck (manifest_at p k) +ℤ z) (levers_are truck places)

  -- ---- which are on
  -- the places of those that are
  abbrev pub on_places : ℕ → List ℕ → List ℕ
  on_places departure places = filter (λ k. is_on departure (nth_row k)) places

  pub on_rows : (departure : ℕ) (places : List ℕ) → on_at departure (map nth_row places) ≡ map nth_row (on_places departure places)
  on_rows departure places = filter_map nth_row (is_on departure) places

  pub on_stacks : (departure : ℕ) (places : List ℕ)
      → filter (λ (s : Stack). between 1 departure (supplier_order i s)) (map (manifest_at p) places) ≡ map (manifest_at p) (on_places departure places)
  unfolding rank_of order_from
  on_stacks departure places = filter_map (manifest_at p) (λ (s : Stack). between 1 departure (supplier_order i s)) places

  plan_weight : sum (sm i) p ≤ 3276800000
  plan_weight =
      let each = (every_reads _ p).0 (stacks_in_lem h.filled) in
      let less = sum_below (sm i) (λ (s : Stack). 50000 * length s.load) p (λ s e. stack_weight h.filled s (each s e)) in
      omega (arith, less, per_entry_most h.filled 50000)

  module _ {on : Block} (one : OneTruck p on.start on.end) where
    -- ---- the stacks of a used truck
    -- their rows
    abbrev pub loaded : List Row
    loaded = take (on.end - on.start) (drop on.start rows)

    -- and their places in the manifest
    abbrev pub places : List ℕ
    places = up_from on.start (on.end - on.start)

    pub loaded_rows : loaded ≡ map nth_row places
    loaded_rows = block_rows on.start (on.end - on.start) (omega (arith, one.some, one.within))

    pub loaded_stacks : block p on.start on.end ≡ map (manifest_at p) places
    loaded_stacks = block_places p on.start (on.end - on.start) (omega (arith, one.some, one.within))

    row_there : (k : ℕ) → k < length loaded → (k < on.end - on.start) × (row_at rows (on.start + k) ≡ row_at loaded k)
    row_there k inside =
        let within : k < on.end - on.start = omega (arith, inside, take_most (on.end - on.start) (drop on.start rows)) in
        (within, sym (get_or-take (on.end - on.start) (drop on.start rows) k no_row within ∙ get_or-drop on.start rows k no_row))

    pub rows_bounded : BoundedRows loaded
    rows_bounded =
        record {
          each = λ k inside.
              let there = row_there k inside in
              let most = row_most h (on.start + k) (omega (arith, there.0, one.within)) in
              rw (← there.1) (record { weight = most.weight; x = most.x; xe = most.xe });
          weight =
              let n = on.end - on.start in
              let is = ap weight_of loaded_rows ∙ weights_are places ∙ ap (sum (sm i)) (sym loaded_stacks) in
              omega (arith, is, plan_weight, sum_perm (sm i) (manifest_perm p), sum_drop (sm i) on.start (in_manifest p), sum_take (sm i) n (drop on.start (in_manifest p)));
        }

    -- the first row has the truck and the copy of all
    pub used_known : (record { truck = (row_at rows on.start).truck; copy = (row_at rows on.start).copy }) ≡ used_by (manifest_at p on.start)
    used_known = ap (λ (r : Row). used r.truck r.copy) (row_is h on.start (omega (arith, one.some, one.within)))
      where
        used : ℕ → ℕ → UsedTruck
        used truck copy = record { truck = truck; copy = copy }

    pub truck_known : TruckNumber i (row_at rows on.start).truck
    truck_known = (truck_is h on.start (omega (arith, one.some, one.within))).1
