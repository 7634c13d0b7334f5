-- The words of a model with room in the table hold that model, also with words beyond them, and are as many as are named.
use mathlib.Core.Path.{◌≡◌, refl, sym, ap, ap₂, subst, ◌∙◌}
use mathlib.Core.List.{List, [], ◌∷◌, ◌++◌, map, flat_map, append_assoc, append-nil, map-id}
use Prim.Native.Nat.{ℕ, zero, suc, ◌+◌, ◌-◌, ◌*◌, ◌≤◌}
use native.Mathlib.Nat.{mul-le-mul_left}
use native.Mathlib.Omega.{arith}
use lib.ListN.{length, get_or, take, drop, replicate, length-append, length-replicate, length-map}
use lib.Seq.{take_at, drop_at, get_or_at}
use Rattle.meaning.specs.declared.Limits.{Limits}
use Rattle.meaning.specs.Lists.{Every, chunks, padded}
use Rattle.meaning.specs.Limits.{items_at, trucks_at, stacks_at, loads_at, named}
use Rattle.meaning.specs.Model.{Instance, Truck, Stack, Item}
use Rattle.meaning.specs.Table.{head_words, counted_words, spare_words, truck_words, stack_words, load_entries, words, cut_lists, truck_in, instance_in, stack_in, stacks_in}
use Rattle.meaning.specs.InRange.{TruckFits, Fits}
use Rattle.meaning.specs.Claims.{Decodes}
use Rattle.meaning.proofs.Lists.{every_map}

-- ---- words in parts
-- from word `at` on, ws is `rest`
pub record From (ws : List ℕ) (at : ℕ) (rest : List ℕ) : Type 0 where
  pub front : List ℕ
  pub whole : ws ≡ front ++ rest
  pub width : length front ≡ at

pub start : (ws : List ℕ) → From ws 0 ws
start ws = record { front = []; whole = refl; width = refl }

module _ {ws : List ℕ} {at : ℕ} where
  -- past a part of w words
  pub past : (w : ℕ) (part rest : List ℕ) → From ws at (part ++ rest) → length part ≡ w → From ws (at + w) rest
  past w part rest h e =
      record {
        front = h.front ++ part;
        whole = h.whole ∙ sym (append_assoc h.front part rest);
        width = length-append h.front part ∙ ap₂ ◌+◌ h.width e;
      }

  -- the last part has no words behind it
  last : (part : List ℕ) → From ws at part → From ws at (part ++ [])
  last part h = rw (append-nil part) h

  -- so many words stand before the end
  length_whole : From ws at [] → length ws ≡ at
  length_whole h = ap length (h.whole ∙ append-nil h.front) ∙ h.width

  pub drop_from : {rest : List ℕ} → From ws at rest → drop at ws ≡ rest
  drop_from {rest} h = ap (drop at) h.whole ∙ drop_at h.front rest at h.width

  pub word_at : {n : ℕ} {rest : List ℕ} → From ws at (n ∷ rest) → get_or ws at 0 ≡ n
  word_at {n} {rest} h = ap (λ (l : List ℕ). get_or l at 0) h.whole ∙ get_or_at h.front n rest 0 at h.width

-- ---- padded parts
pub length_padded : (w : ℕ) (l : List ℕ) → length l ≤ w → length (padded w l) ≡ w
length_padded w l h = simp (length-append, length-replicate) (omega arith)

-- a part of entries behind their count
pub length_counted : (w : ℕ) (l : List ℕ) → length l ≤ w → length (counted_words w l) ≡ suc w
length_counted w l h = ap suc (length_padded w l h)

module _ {ws : List ℕ} {at : ℕ} (w : ℕ) (l rest : List ℕ) where
  -- a padded part begins with its entries
  drop_padded : From ws at (padded w l ++ rest) → drop at ws ≡ l ++ (replicate (w - length l) 0 ++ rest)
  drop_padded h = drop_from h ∙ append_assoc l (replicate (w - length l) 0) rest

  take_padded : (n : ℕ) → n ≡ length l → From ws at (padded w l ++ rest) → take n (drop at ws) ≡ l
  take_padded n e h = ap (take n) (drop_padded h) ∙ take_at l (replicate (w - length l) 0 ++ rest) n (sym e)

-- the count says how many entries are behind it
take_counted : {ws : List ℕ} {at : ℕ} (w : ℕ) (l rest : List ℕ) → From ws at (counted_words w l ++ rest) → take (get_or ws at 0) (drop (at + 1) ws) ≡ l
take_counted {ws} {at} w l rest h = take_padded w l rest (get_or ws at 0) (word_at h) (past 1 (length l ∷ []) (padded w l ++ rest) h refl)

-- ---- runs of w words each
module _ {A : Type 0} (w : ℕ) (f : A → List ℕ) where
  -- cutting gives the runs back
  pub chunks_flat_map : (l : List A) (rest : List ℕ) → Every (λ a. length (f a) ≡ w) l → chunks w (length l) (flat_map f l ++ rest) ≡ map f l
  unfolding chunks flat_map
  chunks_flat_map [] rest h = refl
  chunks_flat_map (a ∷ l) rest h =
      rw (append_assoc (f a) (flat_map f l) rest, take_at (f a) (flat_map f l ++ rest) w h.0, drop_at (f a) (flat_map f l ++ rest) w h.0)
      (ap {B = List (List ℕ)} (λ r. f a ∷ r) (chunks_flat_map l rest h.1))

  pub length_flat_map : (l : List A) → Every (λ a. length (f a) ≡ w) l → length (flat_map f l) ≡ w * length l
  unfolding flat_map
  length_flat_map [] h = omega arith
  length_flat_map (a ∷ l) h = rw (length-append (f a) (flat_map f l), h.0, length_flat_map l h.1) (omega arith)

  -- a part with room for `most` runs
  module _ (most : ℕ) (l : List A) (each : Every (λ a. length (f a) ≡ w) l) where
    pub length_runs : length l ≤ most → length (padded (w * most) (flat_map f l)) ≡ w * most
    length_runs h = length_padded (w * most) (flat_map f l) (omega (arith, length_flat_map l each, mul-le-mul_left w h))

    pub chunks_runs : {ws : List ℕ} {at : ℕ} (rest : List ℕ) → From ws at (padded (w * most) (flat_map f l) ++ rest) → chunks w (length l) (drop at ws) ≡ map f l
    chunks_runs rest h = ap (chunks w (length l)) (drop_padded (w * most) (flat_map f l) rest h) ∙ chunks_flat_map l _ each

-- ---- a truck
-- the docks, each list cut from its row
cut_docks : (n : ℕ) (ds : List (List ℕ)) (rest : List ℕ) → length ds ≤ n → Every (λ (d : List ℕ). length d ≤ 8) ds
    → cut_lists (map length ds) (chunks 8 n (flat_map (padded 8) ds ++ rest)) ≡ ds
unfolding cut_lists chunks flat_map
cut_docks n [] rest h k = refl
cut_docks zero (d ∷ ds) rest h k = absurd (omega arith)
cut_docks (suc n) (d ∷ ds) rest h k =
    let later = flat_map (padded 8) ds ++ rest in
    let e : length (padded 8 d) ≡ 8 = length_padded 8 d k.0 in
    rw (append_assoc (padded 8 d) (flat_map (padded 8) ds) rest, take_at (padded 8 d) later 8 e, drop_at (padded 8 d) later 8 e)
    (ap₂ {C = List (List ℕ)} (λ a r. a ∷ r) (take_at d (replicate (8 - length d) 0) (length d) refl) (cut_docks n ds rest (omega arith) k.1))

-- its words from each part behind the fields on
module _ (t : Truck) where
  abbrev pub plant_dock_words : List ℕ
  plant_dock_words = counted_words 8 t.plant_docks ++ replicate spare_words 0

  abbrev pub dock_words : List ℕ
  dock_words = padded 64 (flat_map (padded 8) t.docks) ++ plant_dock_words

  abbrev pub dock_count_words : List ℕ
  dock_count_words = padded 8 (map length t.docks) ++ dock_words

  abbrev pub supplier_words : List ℕ
  supplier_words = counted_words 8 t.suppliers ++ dock_count_words

  abbrev pub product_words : List ℕ
  product_words = counted_words 32 t.products ++ supplier_words

-- where each begins, and so what the words of a truck hold
module _ (t : Truck) (h : TruckFits t) where
  few_docks : length t.docks ≤ 8
  few_docks = omega (arith, h.dock_lines, h.suppliers)

  pub from20 : From (truck_words t) 20 (product_words t)
  unfolding truck_words
  from20 = past 20 t.fields (product_words t) (start (truck_words t)) h.fields

  pub from53 : From (truck_words t) 53 (supplier_words t)
  from53 = past 33 (counted_words 32 t.products) (supplier_words t) from20 (length_counted 32 t.products h.products)

  pub from62 : From (truck_words t) 62 (padded 8 (map length t.docks) ++ dock_words t)
  from62 = past 9 (counted_words 8 t.suppliers) (dock_count_words t) from53 (length_counted 8 t.suppliers h.suppliers)

  pub from70 : From (truck_words t) 70 (dock_words t)
  from70 =
      past 8 (padded 8 (map length t.docks)) (dock_words t) from62
      (length_padded 8 (map length t.docks) (omega (arith, length-map t.docks length, few_docks)))

  pub from134 : From (truck_words t) 134 (plant_dock_words t)
  from134 =
      let eights = every_map _ _ (length_padded 8) t.docks h.docks in
      past 64 (padded 64 (flat_map (padded 8) t.docks)) (plant_dock_words t) from70 (length_runs 8 (padded 8) 8 t.docks eights few_docks)

  pub from143 : From (truck_words t) 143 (replicate spare_words 0)
  from143 = past 9 (counted_words 8 t.plant_docks) (replicate spare_words 0) from134 (length_counted 8 t.plant_docks h.plant_docks)

  pub truck_size : length (truck_words t) ≡ 160
  truck_size = length_whole (past spare_words (replicate spare_words 0) [] (last (replicate spare_words 0) from143) refl)

  pub truck_decodes : truck_in (truck_words t) ≡ t
  unfolding truck_in truck_words
  truck_decodes =
      let ws = truck_words t in
      let counts = map length t.docks in
      let fields : take 20 ws ≡ t.fields = take_at t.fields _ 20 h.fields in
      let counted : get_or ws 53 0 ≡ length counts = word_at from53 ∙ sym h.dock_lines ∙ sym (length-map t.docks length) in
      let docks : cut_lists (take (get_or ws 53 0) (drop 62 ws)) (chunks 8 8 (drop 70 ws)) ≡ t.docks =
      ap₂ cut_lists (take_padded 8 counts (dock_words t) _ counted from62)
      (ap (chunks 8 8) (drop_padded 64 (flat_map (padded 8) t.docks) (plant_dock_words t) from70))
      ∙ cut_docks 8 t.docks _ few_docks h.docks
      in
      λ j. record {
        fields = fields j;
        products = take_counted 32 t.products _ from20 j;
        suppliers = take_counted 8 t.suppliers _ from53 j;
        docks = docks j;
        plant_docks = take_counted 8 t.plant_docks _ from134 j;
      }

trucks_decode : (ts : List Truck) → Every TruckFits ts → map truck_in (map truck_words ts) ≡ ts
trucks_decode [] h = refl
trucks_decode (t ∷ ts) h = ap₂ {C = List Truck} (λ a r. a ∷ r) (truck_decodes t h.0) (trucks_decode ts h.1)

-- ---- stacks
-- the words of one stack, with `before` load entries before its own
abbrev pub one_stack_words : ℕ → Stack → List ℕ
one_stack_words before s = s.fields ++ (before ∷ length s.load ∷ [])

pub length_one_stack_words : (before : ℕ) (s : Stack) → length s.fields ≡ 6 → length (one_stack_words before s) ≡ 8
length_one_stack_words before s h = simp length-append (omega arith)

-- a stack whose load entries have the words `before` in front and `after` behind
stack_decodes : (s : Stack) (before after : List ℕ) → length s.fields ≡ 6 → stack_in (before ++ (s.load ++ after)) (one_stack_words (length before) s) ≡ s
unfolding stack_in
stack_decodes s before after h =
    let row = one_stack_words (length before) s in
    let from6 : From row 6 (length before ∷ length s.load ∷ []) = past 6 s.fields _ (start row) h in
    let from7 : From row 7 (length s.load ∷ []) = past 1 (length before ∷ []) _ from6 refl in
    let fields : take 6 row ≡ s.fields = take_at s.fields _ 6 h in
    let load : take (get_or row 7 0) (drop (get_or row 6 0) (before ++ (s.load ++ after))) ≡ s.load =
    ap₂ take (word_at from7) (drop_at before (s.load ++ after) (get_or row 6 0) (sym (word_at from6))) ∙ take_at s.load after (length s.load) refl
    in
    λ j. record { fields = fields j; load = load j }

-- the same for the stacks of a plan, with more words behind theirs
stacks_decode : (p : List Stack) (before after rest : List ℕ) → Every (λ (s : Stack). length s.fields ≡ 6) p
    → map (stack_in (before ++ (load_entries p ++ after))) (chunks 8 (length p) (stack_words (length before) p ++ rest)) ≡ p
unfolding chunks load_entries stack_words
stacks_decode [] before after rest h = refl
stacks_decode (s ∷ p) before after rest h =
    let row = one_stack_words (length before) s in
    let later = stack_words (length before + length s.load) p in
    let e = length_one_stack_words (length before) s h.0 in
    let loads = before ++ ((s.load ++ load_entries p) ++ after) in
    let first : stack_in loads row ≡ s = rw (append_assoc s.load (load_entries p) after) (stack_decodes s before (load_entries p ++ after) h.0) in
    let along : (before ++ s.load) ++ (load_entries p ++ after) ≡ loads =
    append_assoc before s.load (load_entries p ++ after) ∙ ap (λ (ls : List ℕ). before ++ ls) (sym (append_assoc s.load (load_entries p) after))
    in
    let others : map (stack_in loads) (chunks 8 (length p) (later ++ rest)) ≡ p =
    subst (λ (ls : List ℕ). map (stack_in ls) (chunks 8 (length p) (later ++ rest)) ≡ p) along
    (subst
    (λ (n : ℕ). map (stack_in ((before ++ s.load) ++ (load_entries p ++ after))) (chunks 8 (length p) (stack_words n p ++ rest)) ≡ p)
    (length-append before s.load) (stacks_decode p (before ++ s.load) after rest h.1))
    in
    rw (append_assoc row later rest, take_at row (later ++ rest) 8 e, drop_at row (later ++ rest) 8 e)
    (ap₂ {C = List Stack} (λ a r. a ∷ r) first others)

pub length_stack_words : (before : ℕ) (p : List Stack) → Every (λ (s : Stack). length s.fields ≡ 6) p → length (stack_words before p) ≡ 8 * length p
unfolding stack_words
length_stack_words before [] h = refl
length_stack_words before (s ∷ p) h =
    let later = before + length s.load in
    rw (length-append (one_stack_words before s) (stack_words later p), length_one_stack_words before s h.0, length_stack_words later p h.1) (omega arith)

-- ---- the table: the words of a model, and any words beyond them
-- its words from each part on
module _ (m : Limits) (i : Instance) (p : List Stack) (beyond : List ℕ) where
  abbrev pub from_loads : List ℕ
  from_loads = padded m.loads (load_entries p) ++ beyond

  -- behind the words of the stacks: zeros, then the loads
  abbrev pub behind_stacks : List ℕ
  behind_stacks = replicate (8 * m.stacks - length (stack_words 0 p)) 0 ++ from_loads

  abbrev pub from_stacks : List ℕ
  from_stacks = padded (8 * m.stacks) (stack_words 0 p) ++ from_loads

  abbrev pub from_trucks : List ℕ
  from_trucks = padded (160 * m.trucks) (flat_map truck_words i.trucks) ++ from_stacks

  abbrev pub from_items : List ℕ
  from_items = padded (16 * m.items) (flat_map (λ (a : Item). a) i.items) ++ from_trucks

  abbrev pub long_table : List ℕ
  long_table = words m i p ++ beyond

-- where each begins, and what it holds
module _ (m : Limits) (i : Instance) (p : List Stack) (h : Fits m i p) (beyond : List ℕ) where
  pub items_begin : From (long_table m i p beyond) items_at (from_items m i p beyond)
  unfolding words head_words
  items_begin = record { front = padded items_at (head_words i p); whole = simp append_assoc; width = refl }

  sizes : Every (λ (t : Truck). length (truck_words t) ≡ 160) i.trucks
  sizes = every_map TruckFits _ truck_size i.trucks h.trucks

  pub trucks_begin : From (long_table m i p beyond) (trucks_at m) (from_trucks m i p beyond)
  trucks_begin =
      past (16 * m.items) (padded (16 * m.items) (flat_map (λ (a : Item). a) i.items)) (from_trucks m i p beyond) items_begin
      (length_runs 16 (λ (a : Item). a) m.items i.items h.items h.item_count)

  pub stacks_begin : From (long_table m i p beyond) (stacks_at m) (from_stacks m i p beyond)
  stacks_begin =
      past (160 * m.trucks) (padded (160 * m.trucks) (flat_map truck_words i.trucks)) (from_stacks m i p beyond) trucks_begin
      (length_runs 160 truck_words m.trucks i.trucks sizes h.truck_count)

  pub loads_begin : From (long_table m i p beyond) (loads_at m) (from_loads m i p beyond)
  loads_begin =
      past (8 * m.stacks) (padded (8 * m.stacks) (stack_words 0 p)) (from_loads m i p beyond) stacks_begin
      (length_padded (8 * m.stacks) (stack_words 0 p) (omega (arith, length_stack_words 0 p h.stacks, h.stack_count)))

  pub beyond_begins : From (long_table m i p beyond) (named m) beyond
  beyond_begins = past m.loads (padded m.loads (load_entries p)) beyond loads_begin (length_padded m.loads (load_entries p) h.loads)

  -- the rows of the trucks, and the words from the stacks on
  pub truck_words_at : chunks 160 (length i.trucks) (drop (trucks_at m) (long_table m i p beyond)) ≡ map truck_words i.trucks
  truck_words_at = chunks_runs 160 truck_words m.trucks i.trucks sizes (from_stacks m i p beyond) trucks_begin

  pub stack_words_at : drop (stacks_at m) (long_table m i p beyond) ≡ stack_words 0 p ++ behind_stacks m i p beyond
  stack_words_at = drop_padded (8 * m.stacks) (stack_words 0 p) (from_loads m i p beyond) stacks_begin

  pub instance_decoded : instance_in m (long_table m i p beyond) ≡ i
  unfolding words head_words instance_in
  instance_decoded =
      let items : chunks 16 (length i.items) (drop items_at (long_table m i p beyond)) ≡ i.items =
      chunks_runs 16 _ m.items i.items h.items (from_trucks m i p beyond) items_begin ∙ map-id i.items
      in
      let trucks : map truck_in (chunks 160 (length i.trucks) (drop (trucks_at m) (long_table m i p beyond))) ≡ i.trucks =
      ap (map truck_in) truck_words_at ∙ trucks_decode i.trucks h.trucks
      in
      λ j. record { αT = i.αT; αI = i.αI; αE = i.αE; items = items j; trucks = trucks j }

  pub stacks_decoded : stacks_in m (long_table m i p beyond) ≡ p
  unfolding words head_words stacks_in
  stacks_decoded =
      ap₂ (λ (l r : List ℕ). map (stack_in l) (chunks 8 (length p) r)) (drop_padded m.loads (load_entries p) beyond loads_begin) stack_words_at
      ∙ stacks_decode p [] _ _ h.stacks

-- the same with none beyond
pub decodes : (m : Limits) → Decodes m
decodes m i p h =
    let e = sym (append-nil (words m i p)) in
    record {
      instance = ap (instance_in m) e ∙ instance_decoded m i p h [];
      stacks = ap (stacks_in m) e ∙ stacks_decoded m i p h [];
      size = ap length e ∙ length_whole (beyond_begins m i p h []);
    }
