-- Two files are read as a model exactly when they are that model written out, in range, without a code clash and short enough.
use mathlib.Core.Path.{◌≡◌, refl, sym, ap, ◌∙◌}
use mathlib.Core.Bool.{true}
use mathlib.Core.List.{List, [], ◌∷◌, ◌++◌, map, flat_map, append_assoc, append-nil}
use Prim.Native.Nat.{ℕ, suc, ◌+◌, ◌≤◌}
use Prim.Native.String.{String}
use native.Mathlib.Omega.{arith}
use lib.ListN.{length, get_or}
use Rattle.meaning.specs.declared.Limits.{Limits}
use Rattle.meaning.specs.Lists.{Every, any, between}
use Rattle.meaning.specs.Limits.{small}
use Rattle.meaning.specs.Text.{Form, bytes}
use Rattle.meaning.specs.Reader.{found, Reader, give, onward, ◌>>=◌, line, times}
use Rattle.meaning.specs.Model.{Instance, Truck, Stack, number}
use Rattle.meaning.specs.Files.{Range, ◌to◌, all_within, number_line, truck_lines, instance_lines, stack_lines, plan_lines}
use Rattle.meaning.specs.Reorder.{ended, OneLine, pair_bytes, plan_of}
use Rattle.meaning.specs.Print.{printed_line, printed_truck, printed_instance, printed_stack, printed_plan}
use Rattle.meaning.specs.Meets.{Meets, TruckMeets, InstanceMeets, StacksMeet, FilesMeet}
use Rattle.meaning.specs.Claims.{Readable, TenDigitLimits, ReadExactly}
use Rattle.meaning.proofs.Tests.{and_reads, between_reads}
use Rattle.meaning.proofs.Lists.{every_map}
use Rattle.meaning.proofs.Outcomes.{Finds, finds_ended}
use Rattle.meaning.proofs.ReadFiles.{Wholly, read_reads}
use Rattle.meaning.proofs.Printed.{read_printed_lem}
use Rattle.meaning.proofs.Ranges.{read_in_range_lem}
use Rattle.meaning.proofs.InRange.{files_in_range}
use Rattle.meaning.proofs.Clash.{no_clash_lem}
use Rattle.meaning.proofs.ReadBack.{line_one, TenDigits, line_read}
use Rattle.meaning.proofs.Plain.{Plain, plain_fields, plain_identifiers, plain_item, plain_truck, plain_stack, plain_load}

-- ---- what a reader finds in a text
-- numbers below this end have at most ten digits
abbrev ten_digits : ℕ
ten_digits = 10000000000

-- from line n on, r finds a in the text, whatever bytes follow, and leaves those and the line number `after n`
record Reads {A : Type 0} (a : A) (text : List ℕ) (r : Reader A) : Type 0 where
  after : ℕ → ℕ
  reads : (n : ℕ) (rest : List ℕ) → r n (text ++ rest) ≡ found a (after n) rest

-- a value without reading
reads_none : {A : Type 0} (a : A) → Reads a [] (give a)
reads_none a = record { after = λ n. n; reads = λ n rest. refl }

module _ {A B : Type 0} {b : B} {run : List ℕ} {r : Reader B} where
  -- first r, and then what comes next, in the text behind
  reads_then : {a : A} {text : List ℕ} (next : B → Reader A) → Reads b run r → Reads a text (next b) → Reads a (run ++ text) (r >>= next)
  unfolding onward
  reads_then {text = text} next h k =
      record { after = λ n. k.after (h.after n); reads = λ n rest. rw (append_assoc, h.reads n (text ++ rest)) (k.reads (h.after n) rest) }

  -- the last reader, whose value completes the whole
  reads_last : (f : B → A) → Reads b run r → Reads (f b) run (r >>= (λ c. give (f c)))
  unfolding onward
  reads_last f h = record { after = h.after; reads = λ n rest. rw (h.reads n rest) }

-- a line, where its numbers are written out
reads_line : {f : Form} {ns : List ℕ} → Plain ten_digits f → Meets f ns → Reads ns (ended (printed_line f.key ns)) (line f)
reads_line {f} {ns} s h =
    let back = line_read f.key ns (omega (arith, s.entries, h.least)) (s.below ns h) in
    record { after = suc; reads = λ n rest. finds_ended f (printed_line f.key ns) rest n ns (line_one f.key ns s.one_line) back h }

-- a line with one number
reads_number : (key : String) (r : Range) (v : ℕ) → OneLine (bytes key) → TenDigits r.high → r.low ≤ v → v ≤ r.high
    → Reads v (ended (printed_line key (v ∷ []))) (number_line key r)
unfolding number_line all_within
reads_number key r v o e low high =
    let fits = (and_reads (between r.low r.high v) true).1 ((between_reads r.low r.high v).1 (low, high), refl) in
    let s = plain_fields ten_digits key (r ∷ []) o (omega arith) (e, tt) in
    reads_last (λ ns. get_or ns 0 0) (reads_line s (record { least = omega arith; most = omega arith; fits = fits }))

-- as many values as there are texts, and so for lines of one form
reads_times : {A : Type 0} (text : A → List ℕ) (r : Reader A) (l : List A) → Every (λ a. Reads a (text a) r) l → Reads l (flat_map text l) (times (length l) r)
unfolding times flat_map
reads_times text r [] h = reads_none []
reads_times text r (a ∷ l) h = reads_then _ h.0 (reads_last (λ rest. a ∷ rest) (reads_times text r l h.1))

reads_lines : {f : Form} (l : List (List ℕ)) → Plain ten_digits f → Every (Meets f) l
    → Reads l (flat_map (λ ns. ended (printed_line f.key ns)) l) (times (length l) (line f))
reads_lines {f} l s h = reads_times _ (line f) l (every_map (Meets f) _ (λ ns k. reads_line s k) l h)

-- ---- the instance: the walks go through the lines as the readers do
reads_truck : (t : Truck) → TruckMeets t → Reads t (printed_truck t) truck_lines
unfolding truck_lines printed_truck any
reads_truck t h =
    reads_then _ (reads_line (plain_truck ten_digits (omega arith)) h.fields)
    (reads_then _ (reads_line (plain_identifiers ten_digits (omega arith) "products=" 32 refl) h.products)
    (reads_then _ (reads_line (plain_identifiers ten_digits (omega arith) "suppliers=" 8 refl) h.suppliers)
    (reads_then _ (rw h.dock_lines at (reads_lines t.docks (plain_identifiers ten_digits (omega arith) "docks=" 8 refl) h.docks))
    (reads_last _ (reads_line (plain_identifiers ten_digits (omega arith) "plantdocks=" 8 refl) h.plant_docks)))))

reads_instance : (m : Limits) → TenDigitLimits m → (i : Instance) → InstanceMeets m i → Reads i (printed_instance i) (instance_lines m)
unfolding instance_lines printed_instance any
reads_instance m few i h =
    reads_then _ (reads_number "transport=" (0 to 1000) i.αT refl (omega arith) (omega arith) h.head.αT)
    (reads_then _ (reads_number "inventory=" (0 to 1000) i.αI refl (omega arith) (omega arith) h.head.αI)
    (reads_then _ (reads_number "extra=" (0 to 1000) i.αE refl (omega arith) (omega arith) h.head.αE)
    (reads_then _ (reads_number "items=" (1 to m.items) (length i.items) refl (omega (arith, few.items)) h.head.some_item h.head.item_count)
    (reads_then _ (reads_number "trucks=" (1 to m.trucks) (length i.trucks) refl (omega (arith, few.trucks)) h.head.some_truck h.head.truck_count)
    (reads_then _ (reads_lines i.items (plain_item ten_digits (omega arith)) h.items)
    (reads_last _ (reads_times printed_truck truck_lines i.trucks (every_map TruckMeets _ reads_truck i.trucks h.trucks))))))))

-- ---- the plan
module _ (most items trucks : ℕ) (fewItems : TenDigits items) (fewTrucks : TenDigits trucks) where
  reads_stacks : (earlier : List ℕ) (loaded : ℕ) (p : List Stack) → StacksMeet most items trucks earlier loaded p
      → Reads p (flat_map pair_bytes (map printed_stack p)) (stack_lines most items trucks (length p) earlier loaded)
  unfolding stack_lines flat_map
  reads_stacks earlier loaded [] h = reads_none []
  reads_stacks earlier loaded (s ∷ p) h =
      rw (append_assoc (ended (printed_line "stack=" s.fields)) (ended (printed_line "load=" s.load)) (flat_map pair_bytes (map printed_stack p)))
      (reads_then _ (reads_line (plain_stack ten_digits (omega arith) trucks earlier fewTrucks) h.0)
      (reads_then _ (reads_line (plain_load ten_digits most items loaded fewItems) h.1)
      (reads_last (λ rest. s ∷ rest) (reads_stacks (number s ∷ earlier) (loaded + length s.load) p h.2))))

reads_plan : (m : Limits) → TenDigitLimits m → (i : Instance) (p : List Stack) → FilesMeet m i p → Reads p (printed_plan p) (plan_lines m i)
unfolding plan_lines printed_plan plan_of any
reads_plan m few i p h =
    let items = length i.items in
    let trucks = length i.trucks in
    let fewItems : TenDigits items = omega (arith, few.items, h.instance.head.item_count) in
    let fewTrucks : TenDigits trucks = omega (arith, few.trucks, h.instance.head.truck_count) in
    reads_then _ (reads_number "stacks=" (0 to m.stacks) (length p) refl (omega (arith, few.stacks)) (omega arith) h.stack_count)
    (reads_stacks m.loads items trucks fewItems fewTrucks [] 0 p h.stacks)

-- ---- both files
-- in a file that is the text alone, nothing is left
reads_wholly : {A : Type 0} (a : A) (text bs : List ℕ) (r : Reader A) → bs ≡ text → Reads a text r → Finds (Wholly a) (r 1 bs)
reads_wholly a text bs r e h = rw (ap (r 1) (e ∙ sym (append-nil text)) ∙ h.reads 1 []) (refl, refl)

-- what is read is legible by the laws of reading, and what is legible is read since the readers find it
pub read_exactly_lem : (m : Limits) → ReadExactly m
read_exactly_lem m few instance plan i p =
    let steps = read_reads m instance plan i p in (
      (λ e.
          let r : Readable m instance plan = record { says = i; stacks = p; read = e } in
          let h = steps.0 e in
          record {
            printed = read_printed_lem m instance plan r;
            in_range = read_in_range_lem m instance plan r;
            no_clash = (no_clash_lem i).0 h.no_clash;
            instance_bytes = h.short_instance;
            plan_bytes = h.short_plan;
          }),
      (λ h.
          let met = (files_in_range m i p).1 h.in_range in
          steps.1 (record {
            short_instance = h.instance_bytes;
            short_plan = h.plan_bytes;
            says = reads_wholly i (printed_instance i) instance (instance_lines m) h.printed.says (reads_instance m few i met.instance);
            no_clash = (no_clash_lem i).1 h.no_clash;
            stacks = reads_wholly p (printed_plan p) plan (plan_lines m i) h.printed.stacks (reads_plan m few i p met);
          })),
    )

-- the limits of document 01 are such
pub small_ten_digits : TenDigitLimits small
small_ten_digits = record { items = omega arith; trucks = omega arith; stacks = omega arith }
