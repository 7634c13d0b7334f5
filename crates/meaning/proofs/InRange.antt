-- The ranges by the fields' names are those that the forms of the lines test.
use mathlib.Core.Path.{◌≡◌, refl, sym, ap, subst, ◌∙◌}
use mathlib.Core.Logic.{inl, inr, ⊎_elim, ◌↔◌}
use mathlib.Core.Bool.{true, not}
use mathlib.Core.List.{List, [], ◌∷◌, map, flat_map}
use Prim.Native.Nat.{ℕ, zero, suc, ◌+◌, ◌≤◌}
use Prim.Native.String.{String}
use native.Mathlib.Omega.{arith}
use lib.Dec.{leb}
use lib.ListN.{length, get_or, take, drop, length-append}
use lib.Seq.{take_all}
use Rattle.meaning.specs.declared.Limits.{Limits}
use Rattle.meaning.specs.Lists.{In, Every, up_from, all, between, listed, distinct}
use Rattle.meaning.specs.Model.{Instance, Truck, Stack, Item, number}
use Rattle.meaning.specs.Files.{Field, ranges, all_within, item_fields, truck_fields, stack_fields, stack_ranges}
use Rattle.meaning.specs.Files.{identifiers_line, item_line, truck_line, docks_line, stack_line, load_line}
use Rattle.meaning.specs.Table.{load_entries}
use Rattle.meaning.specs.Meets.{Meets, TruckMeets, InstanceMeets, StacksMeet, FilesMeet}
use Rattle.meaning.specs.InRange.{IsIdentifier, Distinct, ItemInRange, ListInRange, FieldsInRange, TruckInRange, InstanceInRange, StackInRange, LoadInRange, InRange}
use Rattle.meaning.specs.Claims.{values, FieldsNamed}
use Rattle.meaning.proofs.Tests.{and_reads, between_reads, le_reads, not_reads, iff_trans, iff_both, iff_not}
use Rattle.meaning.proofs.Lists.{NoRepeat, at_in, in_at, in_map, every_iff, every_append, all_every, listed_reads, distinct_reads, map_up_from}
use Rattle.meaning.proofs.Fields.{Within}

-- ---- the entries of a line, by their names
-- all entries of a list, place by place
entries_in_order : (l : List ℕ) (n : ℕ) → length l ≡ n → map (λ k. get_or l k 0) (up_from 0 n) ≡ l
entries_in_order l n e = map_up_from l 0 0 n (omega arith) ∙ take_all n l (omega arith)

pub fields_named_lem : FieldsNamed
unfolding up_from
fields_named_lem =
    record {
      item = λ a e. entries_in_order a 16 e;
      truck = λ t e. entries_in_order t.fields 20 e;
      stack = λ trucks s e. entries_in_order s.fields 6 e;
    }

module _ {A : Type 0} (a : A) where
  -- the value of a field lies in its range, and those of all fields in theirs
  abbrev FieldIn : Field A → Type 0
  FieldIn f = Within f.range (f.value a)

  abbrev AllIn : List (Field A) → Type 0
  AllIn fields = Every FieldIn fields

  values_within : (fields : List (Field A)) → (all_within (ranges fields) (values fields a) ≡ true) ↔ AllIn fields
  unfolding all_within
  values_within [] = ((λ e. tt), (λ h. refl))
  values_within (f ∷ fields) =
      iff_trans (and_reads (between f.range.low f.range.high (f.value a)) (all_within (ranges fields) (values fields a)))
      (iff_both (between_reads f.range.low f.range.high (f.value a)) (values_within fields))

  -- so a line is in range exactly when the fields that it names are
  named_within : (fields : List (Field A)) (ns : List ℕ) → values fields a ≡ ns → (all_within (ranges fields) ns ≡ true) ↔ AllIn fields
  named_within fields ns e = subst (λ (l : List ℕ). (all_within (ranges fields) l ≡ true) ↔ AllIn fields) e (values_within fields)

-- ---- items
item_in_range : (a : Item) → Meets item_line a ↔ ItemInRange a
item_in_range a = (
  (λ h.
      let size : length a ≡ 16 = omega (arith, h.least, h.most) in
      omega (arith, size, (named_within a (item_fields a) a (fields_named_lem.item a size)).0 h.fits)),
  (λ h.
      let within : AllIn a (item_fields a) = omega (arith, h) in
      record { least = omega (arith, h); most = omega (arith, h); fits = (named_within a (item_fields a) a (fields_named_lem.item a h.fields)).1 within }),
)

-- ---- identifiers
-- no number stands twice exactly when two places with one number are one place
distinct_places : (l : List ℕ) → (distinct l ≡ true) ↔ Distinct l
distinct_places l = (λ e. once l ((distinct_reads l).0 e), λ h. (distinct_reads l).1 (no_repeat l h))
  where
    once : (l : List ℕ) → NoRepeat l → Distinct l
    once [] h j k a b e = absurd (omega arith)
    once (n ∷ l) h zero zero a b e = refl
    once (n ∷ l) h zero (suc k) a b e = absurd (h.0 (subst (λ (z : ℕ). In z l) (sym e) (at_in l 0 k (omega arith))))
    once (n ∷ l) h (suc j) zero a b e = absurd (h.0 (subst (λ (z : ℕ). In z l) e (at_in l 0 j (omega arith))))
    once (n ∷ l) h (suc j) (suc k) a b e = ap suc (once l h.1 j k (omega arith) (omega arith) e)

    no_repeat : (l : List ℕ) → Distinct l → NoRepeat l
    no_repeat [] h = tt
    no_repeat (n ∷ l) h = (
      (λ m. let w = in_at 0 l n m in let z : 0 ≡ suc w.0 = h 0 (suc w.0) (omega arith) (omega (arith, w.1)) w.2 in omega arith),
      no_repeat l (λ j k a b e. let z : suc j ≡ suc k = h (suc j) (suc k) (omega arith) (omega arith) e in omega arith),
    )

list_in_range : (key : String) (most : ℕ) (l : List ℕ) → Meets (identifiers_line key most) l ↔ ListInRange most l
list_in_range key most l =
    let reads = iff_trans (and_reads (all (between 1 65535) l) (distinct l)) (iff_both (all_every (between 1 65535) IsIdentifier (between_reads 1 65535) l) (distinct_places l)) in (
      (λ h. let t = reads.0 h.fits in record { some = h.least; few = h.most; identifiers = t.0; distinct = t.1 }),
      (λ h. record { least = h.some; most = h.few; fits = reads.1 (h.identifiers, h.distinct) }),
    )

-- ---- trucks
fields_in_range : (t : Truck) → Meets truck_line t.fields ↔ FieldsInRange t
fields_in_range t = (
  (λ h.
      let size : length t.fields ≡ 20 = omega (arith, h.least, h.most) in
      omega (arith, size, (named_within t truck_fields t.fields (fields_named_lem.truck t size)).0 h.fits)),
  (λ h.
      let front : AllIn t (take 10 truck_fields) = omega (arith, h) in
      let back : AllIn t (drop 10 truck_fields) = omega (arith, h) in
      let within = (every_append (FieldIn t) (take 10 truck_fields) (drop 10 truck_fields)).1 (front, back) in
      record { least = omega (arith, h); most = omega (arith, h); fits = (named_within t truck_fields t.fields (fields_named_lem.truck t h.fields)).1 within }),
)

truck_in_range : (t : Truck) → TruckMeets t ↔ TruckInRange t
truck_in_range t =
    let fields = fields_in_range t in
    let products = list_in_range _ 32 t.products in
    let suppliers = list_in_range _ 8 t.suppliers in
    let docks = every_iff (Meets docks_line) (ListInRange 8) (list_in_range _ 8) t.docks in
    let plant = list_in_range _ 8 t.plant_docks in (
      (λ h.
          record {
            fields = fields.0 h.fields;
            products = products.0 h.products;
            suppliers = suppliers.0 h.suppliers;
            dock_lines = h.dock_lines;
            docks = docks.0 h.docks;
            plant_docks = plant.0 h.plant_docks;
          }),
      (λ h.
          record {
            fields = fields.1 h.fields;
            products = products.1 h.products;
            suppliers = suppliers.1 h.suppliers;
            dock_lines = h.dock_lines;
            docks = docks.1 h.docks;
            plant_docks = plant.1 h.plant_docks;
          }),
    )

instance_in_range : (m : Limits) (i : Instance) → InstanceMeets m i ↔ InstanceInRange m i
instance_in_range m i =
    let items = every_iff (Meets item_line) ItemInRange item_in_range i.items in
    let trucks = every_iff TruckMeets TruckInRange truck_in_range i.trucks in (
      (λ h. record { head = h.head; items = items.0 h.items; trucks = trucks.0 h.trucks }),
      (λ h. record { head = h.head; items = items.1 h.items; trucks = trucks.1 h.trucks }),
    )

-- ---- stacks
-- a stack's line behind others: the ranges, and a number that no earlier stack has
stack_in_range : (trucks : ℕ) (earlier : List ℕ) (s : Stack)
    → Meets (stack_line trucks earlier) s.fields ↔ (StackInRange trucks s × (In (number s) earlier → ⊥))
stack_in_range trucks earlier s =
    let fields = stack_fields trucks in
    let new = iff_trans (not_reads (listed (number s) earlier)) (iff_not (listed_reads (number s) earlier)) in
    let both = and_reads (all_within (stack_ranges trucks) s.fields) (not (listed (number s) earlier)) in (
      (λ h.
          let size : length s.fields ≡ 6 = omega (arith, h.least, h.most) in
          let t = both.0 h.fits in
          (omega (arith, size, (named_within s fields s.fields (fields_named_lem.stack trucks s size)).0 t.0), new.0 t.1)),
      (λ h.
          let r = h.0 in
          let within : AllIn s fields = omega (arith, r) in
          let fits = both.1 ((named_within s fields s.fields (fields_named_lem.stack trucks s r.fields)).1 within, new.1 h.1) in
          record { least = omega (arith, r); most = omega (arith, r); fits = fits }),
    )

-- its load behind others: the ranges, and room for its entries
load_in_range : (most items earlier : ℕ) (s : Stack) → Meets (load_line most items earlier) s.load ↔ (LoadInRange items s × (earlier + length s.load ≤ most))
load_in_range most items earlier s =
    let both =
    iff_trans (and_reads (all (between 1 items) s.load) (leb (earlier + length s.load) most))
    (iff_both (all_every (between 1 items) (λ n. (1 ≤ n) × (n ≤ items)) (between_reads 1 items) s.load) (le_reads (earlier + length s.load) most))
    in (
      (λ h. let t = both.0 h.fits in (record { some = h.least; few = h.most; entries = t.0 }, t.1)),
      (λ h. record { least = h.0.some; most = h.0.few; fits = both.1 (h.0.entries, h.1) }),
    )

module _ (most items trucks : ℕ) where
  -- stacks behind others: each in range, with a new number, and room for all entries
  record Behind (numbers : List ℕ) (entries : ℕ) (p : List Stack) : Type 0 where
    stacks : Every (StackInRange trucks) p
    loads : Every (LoadInRange items) p
    new : (s : Stack) → In s p → In (number s) numbers → ⊥
    once : NoRepeat (map number p)
    room : entries + length (load_entries p) ≤ most

  stacks_behind : (numbers : List ℕ) (entries : ℕ) (p : List Stack) → entries ≤ most → StacksMeet most items trucks numbers entries p → Behind numbers entries p
  unfolding load_entries flat_map
  stacks_behind numbers entries [] k h = record { stacks = tt; loads = tt; new = λ s m n. m; once = tt; room = omega arith }
  stacks_behind numbers entries (s ∷ p) k h =
      let a = (stack_in_range trucks numbers s).0 h.0 in
      let b = (load_in_range most items entries s).0 h.1 in
      let rest = stacks_behind (number s ∷ numbers) (entries + length s.load) p b.1 h.2 in
      record {
        stacks = (a.0, rest.stacks);
        loads = (b.0, rest.loads);
        new = λ r. ⊎_elim (λ e n. a.1 (subst (λ (z : Stack). In (number z) numbers) e n)) (λ m n. rest.new r m (inr n));
        once = ((λ m. let w = (in_map number p (number s)).0 m in rest.new w.0 w.1 (inl (sym w.2))), rest.once);
        room = omega (arith, rest.room, length-append s.load (load_entries p));
      }

  behind_meets : (numbers : List ℕ) (entries : ℕ) (p : List Stack) → Behind numbers entries p → StacksMeet most items trucks numbers entries p
  unfolding load_entries flat_map
  behind_meets numbers entries [] h = tt
  behind_meets numbers entries (s ∷ p) h =
      let room = rw (length-append s.load (load_entries p)) at h.room in
      let rest : Behind (number s ∷ numbers) (entries + length s.load) p =
      record {
        stacks = h.stacks.1;
        loads = h.loads.1;
        new = λ r m. ⊎_elim (λ e. h.once.0 ((in_map number p (number s)).1 (r, m, sym e))) (h.new r (inr m));
        once = h.once.1;
        room = omega (arith, room);
      }
      in (
        (stack_in_range trucks numbers s).1 (h.stacks.0, h.new s (inl refl)),
        (load_in_range most items entries s).1 (h.loads.0, omega (arith, room)),
        behind_meets (number s ∷ numbers) (entries + length s.load) p rest,
      )

-- ---- both files
pub files_in_range : (m : Limits) (i : Instance) (p : List Stack) → FilesMeet m i p ↔ InRange m i p
files_in_range m i p =
    let items = length i.items in
    let trucks = length i.trucks in
    let numbers = distinct_places (map number p) in
    let repeats = distinct_reads (map number p) in (
      (λ h.
          let b = stacks_behind m.loads items trucks [] 0 p (omega arith) h.stacks in
          record {
            instance = (instance_in_range m i).0 h.instance;
            stack_count = h.stack_count;
            stacks = b.stacks;
            loads = b.loads;
            numbers = numbers.0 (repeats.1 b.once);
            total = omega (arith, b.room);
          }),
      (λ h.
          record {
            instance = (instance_in_range m i).1 h.instance;
            stack_count = h.stack_count;
            stacks =
                behind_meets m.loads items trucks [] 0 p (record {
                  stacks = h.stacks;
                  loads = h.loads;
                  new = λ s k n. n;
                  once = repeats.0 (numbers.1 h.numbers);
                  room = omega (arith, h.total);
                });
          }),
    )
