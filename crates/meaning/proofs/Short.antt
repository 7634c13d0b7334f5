-- The files of a model in range are short: a line has its key, and for each number its digits and one byte behind them.
use mathlib.Core.Path.{◌≡◌, refl}
use mathlib.Core.List.{List, [], ◌∷◌, ◌++◌, map, flat_map}
use Prim.Native.Nat.{ℕ, suc, ◌+◌, ◌*◌, ◌≤◌, ◌<◌}
use Prim.Native.String.{String}
use native.Mathlib.Omega.{arith}
use lib.ListN.{length, get_or, length-append}
use Rattle.meaning.specs.declared.Limits.{Limits}
use Rattle.meaning.specs.Lists.{Every, any}
use Rattle.meaning.specs.Text.{Form, bytes}
use Rattle.meaning.specs.Model.{Instance, Truck, Stack, number}
use Rattle.meaning.specs.Files.{item_line, docks_line}
use Rattle.meaning.specs.Table.{load_entries}
use Rattle.meaning.specs.Reorder.{ended, pair_bytes, plan_of}
use Rattle.meaning.specs.Print.{digits, comma_joined, printed_line, printed_truck, printed_instance, printed_stack, printed_plan}
use Rattle.meaning.specs.Meets.{Meets, TruckMeets, InstanceMeets, StacksMeet, FilesMeet}
use Rattle.meaning.specs.Claims.{instance_most, plan_most, PrintedShort}
use Rattle.meaning.proofs.Lists.{every_map, every_place}
use Rattle.meaning.proofs.ReadBack.{tens, digits_most, digits_few}
use Rattle.meaning.proofs.Ranges.{meets_fits}
use Rattle.meaning.proofs.InRange.{files_in_range}
use Rattle.meaning.proofs.Plain.{Plain, plain_identifiers, plain_item, plain_truck}

-- a text of at most so many bytes
record ShortBy (most : ℕ) (text : List ℕ) : Type 0 where
  few : length text ≤ most

-- ---- one line
-- at most k digits
abbrev Digits : ℕ → ℕ → Type 0
Digits k n = length (digits n) ≤ k

-- any number, and numbers below ten million
ten_digits_lem : (n : ℕ) → Digits 10 n
ten_digits_lem n = omega (arith, digits_most 10 n [])

abbrev seven_end : ℕ
seven_end = 10000000

seven_digits : (n : ℕ) → n < seven_end → Digits 7 n
unfolding tens
seven_digits n h = omega (arith, digits_few 10 7 n [] (omega arith) h)

-- k digits and a byte behind them, for each number
joined_short : (k n : ℕ) (ns : List ℕ) → Every (Digits k) (n ∷ ns) → length (comma_joined (map digits (n ∷ ns))) < suc k * length (n ∷ ns)
unfolding comma_joined
joined_short k n [] h = omega (arith, h.0)
joined_short k n (j ∷ ns) h =
    let e : suc k * length (n ∷ j ∷ ns) ≡ suc k + suc k * length (j ∷ ns) = omega arith in
    rw e (omega (arith, h.0, joined_short k j ns h.1, length-append (digits n) (44 ∷ comma_joined (map digits (j ∷ ns)))))

line_short : (k : ℕ) (key : String) (ns : List ℕ) → 1 ≤ length ns → Every (Digits k) ns
    → ShortBy (length (bytes key) + suc k * length ns) (ended (printed_line key ns))
unfolding printed_line
line_short k key [] some h = absurd (omega arith)
line_short k key (n ∷ ns) some h =
    let value = comma_joined (map digits (n ∷ ns)) in
    record { few = omega (arith, joined_short k n ns h, length-append (bytes key ++ value) (10 ∷ []), length-append (bytes key) value) }

-- a line of a form whose numbers have at most seven digits, and one of any form
seven_short : {f : Form} {ns : List ℕ} → Plain seven_end f → Meets f ns → ShortBy (length (bytes f.key) + 8 * length ns) (ended (printed_line f.key ns))
seven_short {f} {ns} s h = line_short 7 f.key ns (omega (arith, s.entries, h.least)) (every_map _ _ seven_digits ns (s.below ns h))

any_short : (key : String) (ns : List ℕ) → 1 ≤ length ns → ShortBy (length (bytes key) + 11 * length ns) (ended (printed_line key ns))
any_short key ns some = line_short 10 key ns some (every_place _ 0 ns (λ k m. ten_digits_lem (get_or ns k 0)))

-- ---- lines one behind the other
both_short : {a b : List ℕ} {x y : ℕ} → ShortBy x a → ShortBy y b → ShortBy (x + y) (a ++ b)
both_short {a} {b} h k = record { few = omega (arith, h.few, k.few, length-append a b) }

flat_map_short : {A : Type 0} (text : A → List ℕ) (most : ℕ) (l : List A) → Every (λ a. ShortBy most (text a)) l → ShortBy (most * length l) (flat_map text l)
unfolding flat_map
flat_map_short text most [] h = record { few = omega arith }
flat_map_short text most (a ∷ l) h =
    let e : most * length (a ∷ l) ≡ most + most * length l = omega arith in
    rw e (both_short h.0 (flat_map_short text most l h.1))

-- ---- the instance
high : 1000000 < seven_end
high = omega arith

item_short : (a : List ℕ) → Meets item_line a → ShortBy 133 (ended (printed_line "item=" a))
item_short a h = record { few = omega (arith, (seven_short (plain_item seven_end high) h).few, h.most) }

docks_short : (d : List ℕ) → Meets docks_line d → ShortBy 70 (ended (printed_line "docks=" d))
unfolding any
docks_short d h = record { few = omega (arith, (seven_short (plain_identifiers seven_end high "docks=" 8 refl) h).few, h.most) }

truck_short : (t : Truck) → TruckMeets t → ShortBy 1140 (printed_truck t)
unfolding printed_truck any
truck_short t h =
    let identifiers = plain_identifiers seven_end high in
    let dock_lines = flat_map_short (λ ns. ended (printed_line "docks=" ns)) 70 t.docks (every_map (Meets docks_line) _ docks_short t.docks h.docks) in
    let whole =
    both_short (seven_short (plain_truck seven_end high) h.fields)
    (both_short (seven_short (identifiers "products=" 32 refl) h.products)
    (both_short (seven_short (identifiers "suppliers=" 8 refl) h.suppliers)
    (both_short dock_lines (seven_short (identifiers "plantdocks=" 8 refl) h.plant_docks))))
    in
    record { few = omega (arith, whole.few, h.fields.most, h.products.most, h.suppliers.most, h.dock_lines, h.plant_docks.most) }

-- the lines with one number
coefficient_short : (key : String) (n : ℕ) → n ≤ 1000 → ShortBy (length (bytes key) + 8) (ended (printed_line key (n ∷ [])))
coefficient_short key n h = line_short 7 key (n ∷ []) (omega arith) (seven_digits n (omega (arith, h)), tt)

count_short : (key : String) (n : ℕ) → ShortBy (length (bytes key) + 11) (ended (printed_line key (n ∷ [])))
count_short key n = any_short key (n ∷ []) (omega arith)

instance_short : (m : Limits) (i : Instance) → InstanceMeets m i → length (printed_instance i) ≤ instance_most m
unfolding printed_instance
instance_short m i h =
    let head = h.head in
    let items = flat_map_short (λ ns. ended (printed_line "item=" ns)) 133 i.items (every_map (Meets item_line) _ item_short i.items h.items) in
    let trucks = flat_map_short printed_truck 1140 i.trucks (every_map TruckMeets _ truck_short i.trucks h.trucks) in
    let whole =
    both_short (coefficient_short "transport=" i.αT head.αT)
    (both_short (coefficient_short "inventory=" i.αI head.αI)
    (both_short (coefficient_short "extra=" i.αE head.αE)
    (both_short (count_short "items=" (length i.items))
    (both_short (count_short "trucks=" (length i.trucks))
    (both_short items trucks)))))
    in
    omega (arith, whole.few, head.item_count, head.truck_count)

-- ---- the plan
module _ (most items trucks : ℕ) where
  stacks_short : (earlier : List ℕ) (loaded : ℕ) (p : List Stack) → StacksMeet most items trucks earlier loaded p
      → ShortBy (77 * length p + 11 * length (load_entries p)) (flat_map pair_bytes (map printed_stack p))
  unfolding flat_map load_entries
  stacks_short earlier loaded [] h = record { few = omega arith }
  stacks_short earlier loaded (s ∷ p) h =
      let stack_line = any_short "stack=" s.fields (omega (arith, h.0.least)) in
      let load_line = any_short "load=" s.load h.1.least in
      let whole = both_short (both_short stack_line load_line) (stacks_short (number s ∷ earlier) (loaded + length s.load) p h.2) in
      record { few = omega (arith, whole.few, h.0.most, length-append s.load (load_entries p)) }

plan_short : (m : Limits) (i : Instance) (p : List Stack) → FilesMeet m i p → length (printed_plan p) ≤ plan_most m
unfolding printed_plan plan_of
plan_short m i p h =
    let stacks = stacks_short m.loads (length i.items) (length i.trucks) [] 0 p h.stacks in
    omega (arith, (both_short (count_short "stacks=" (length p)) stacks).few, h.stack_count, (meets_fits m i p h).loads)

pub printed_short_lem : (m : Limits) → PrintedShort m
printed_short_lem m i p h = let met = (files_in_range m i p).1 h in (instance_short m i met.instance, plan_short m i p met)
