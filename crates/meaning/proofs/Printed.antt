-- What is read from two files is in range, and the bytes it was read from are it written out.
use mathlib.Core.Path.{◌≡◌, refl, sym, ap, ap₂, subst, ◌∙◌}
use mathlib.Core.Bool.{true}
use mathlib.Core.List.{List, [], ◌∷◌, ◌++◌, map, flat_map, append_assoc, append-nil}
use Prim.Native.Nat.{ℕ, zero, suc, ◌+◌, ◌≤◌}
use Prim.Native.String.{String}
use native.Mathlib.Omega.{arith}
use lib.ListN.{length, get_or}
use Rattle.meaning.specs.declared.Limits.{Limits}
use Rattle.meaning.specs.Lists.{Every, between}
use Rattle.meaning.specs.Text.{Form}
use Rattle.meaning.specs.Reader.{Outcome, found, wrong_form, out_of_range, Reader, give, ◌>>=◌, line, times}
use Rattle.meaning.specs.Model.{Instance, Stack, stack_number}
use Rattle.meaning.specs.Files.{Range, ◌to◌, all_within, fields_line, number_line, truck_lines, instance_lines, stack_lines, plan_lines}
use Rattle.meaning.specs.Files.{item_line, truck_line, products_line, suppliers_line, docks_line, plant_docks_line, stack_line, load_line}
use Rattle.meaning.specs.Reorder.{ended, pair_bytes, plan_of}
use Rattle.meaning.specs.Print.{printed_line, printed_truck, printed_instance, printed_stack, printed_plan}
use Rattle.meaning.specs.Meets.{Meets, TruckMeets, InstanceMeets, StacksMeet, FilesMeet}
use Rattle.meaning.specs.Claims.{Readable, IsPrinted, ReadPrinted}
use Rattle.meaning.proofs.Tests.{and_reads, between_reads}
use Rattle.meaning.proofs.Outcomes.{Leaves, Finds, leaves_onward, leaves_map, leaves_line}
use Rattle.meaning.proofs.Digits.{line_printed}
use Rattle.meaning.proofs.ReadFiles.{Wholly, read_reads}

-- ---- what a reader finds
-- bytes behind the runs of bytes that were read before them, the last run first
abbrev behind : List (List ℕ) → List ℕ → List ℕ
behind [] bs = bs
behind (run ∷ front) bs = behind front (run ++ bs)

behind_append : (front : List (List ℕ)) (bs rest : List ℕ) → behind front (bs ++ rest) ≡ behind front bs ++ rest
behind_append [] bs rest = refl
behind_append (run ∷ front) bs rest = ap (behind front) (sym (append_assoc run bs rest)) ∙ behind_append front (run ++ bs) rest

-- what r finds has P, and the bytes that it was read from, behind those of `front`, are what `text` gives
record Yields {A : Type 0} (front : List (List ℕ)) (P : A → Type 0) (text : A → List ℕ) (r : Reader A) : Type 0 where
  yields : (n : ℕ) (bs : List ℕ) → Leaves (λ a rest. P a × (behind front bs ≡ text a ++ rest)) (r n bs)

module _ {A : Type 0} {P : A → Type 0} {text : A → List ℕ} where
  -- a value without reading, where nothing or something was read before
  yields_none : (a : A) → P a → [] ≡ text a → Yields [] P text (give a)
  yields_none a h e = record { yields = λ n bs. (h, ap (λ (w : List ℕ). w ++ bs) e) }

  yields_give : {last : List ℕ} {front : List (List ℕ)} (a : A) → P a → behind front last ≡ text a → Yields (last ∷ front) P text (give a)
  yields_give {last} {front} a h e = record { yields = λ n bs. (h, behind_append front last bs ∙ ap (λ (w : List ℕ). w ++ bs) e) }

  -- first r; what comes next has the bytes of r before it
  yields_then : {front : List (List ℕ)} {B : Type 0} {Q : B → Type 0} {run : B → List ℕ} {r : Reader B} {next : B → Reader A}
      → Yields [] Q run r → ((b : B) → Q b → Yields (run b ∷ front) P text (next b)) → Yields front P text (r >>= next)
  yields_then {front} {Q = Q} {run} {r} {next} h k =
      record {
        yields =
            λ n bs.
            leaves_onward (λ b rest. Q b × (bs ≡ run b ++ rest)) (λ a rest. P a × (behind front bs ≡ text a ++ rest)) (r n bs) next (h.yields n bs) (λ b n' bs' g.
            leaves_map _ _ (λ a rest t. (t.0, ap (behind front) g.1 ∙ t.1)) (next b n' bs') ((k b g.0).yields n' bs'));
      }

  -- the last reader, of which more is known
  yields_as : {front : List (List ℕ)} {Q : A → Type 0} {run : A → List ℕ} {r : Reader A}
      → Yields [] Q run r → ((a : A) → Q a → P a × (behind front (run a) ≡ text a)) → Yields front P text r
  yields_as {front} {run = run} {r} h f =
      record {
        yields =
            λ n bs.
            leaves_map _ _ (λ a rest t.
            let k = f a t.0 in
            (k.0, ap (behind front) t.1 ∙ behind_append front (run a) rest ∙ ap (λ (w : List ℕ). w ++ rest) k.1)) (r n bs) (h.yields n bs);
      }

-- as many values as were asked for, each of them as r yields it
yields_times : {A : Type 0} {P : A → Type 0} {text : A → List ℕ} {r : Reader A}
    → Yields [] P text r → (k : ℕ) → Yields [] (λ l. (length l ≡ k) × Every P l) (flat_map text) (times k r)
unfolding times flat_map
yields_times h zero = yields_none [] (refl, tt) refl
yields_times h (suc k) = yields_then h (λ a x. yields_then (yields_times h k) (λ l y. yields_give (a ∷ l) (ap suc y.0, (x, y.1)) refl))

-- the numbers of a line meet its form
yields_line : (f : Form) → Yields [] (Meets f) (λ ns. ended (printed_line f.key ns)) (line f)
yields_line f =
    record {
      yields =
          λ n bs.
          leaves_line f (λ ns rest. Meets f ns × (bs ≡ ended (printed_line f.key ns) ++ rest)) n bs (λ l rest ns e s k.
          (k, e ∙ sym (append_assoc l (10 ∷ []) rest) ∙ ap (λ (w : List ℕ). ended w ++ rest) (line_printed f.key l ns s)));
    }

-- the one number of a line with one range
one_number : (key : String) (r : Range) (ns : List ℕ) → Meets (fields_line key (r ∷ [])) ns
    → ((r.low ≤ get_or ns 0 0) × (get_or ns 0 0 ≤ r.high)) × (ns ≡ get_or ns 0 0 ∷ [])
unfolding all_within
one_number key r [] h = absurd (omega (arith, h.least))
one_number key r (n ∷ []) h = ((between_reads r.low r.high n).0 ((and_reads (between r.low r.high n) true).0 h.fits).0, refl)
one_number key r (n ∷ k ∷ ns) h = absurd (omega (arith, h.most))

yields_number : (key : String) (r : Range) → Yields [] (λ v. (r.low ≤ v) × (v ≤ r.high)) (λ v. ended (printed_line key (v ∷ []))) (number_line key r)
unfolding number_line
yields_number key r =
    yields_then (yields_line (fields_line key (r ∷ []))) (λ ns h.
    let t = one_number key r ns h in
    yields_give (get_or ns 0 0) t.0 (ap (λ (l : List ℕ). ended (printed_line key l)) t.1))

-- ---- the instance
yields_truck : Yields [] TruckMeets printed_truck truck_lines
unfolding truck_lines printed_truck
yields_truck =
    yields_then (yields_line truck_line) (λ fields f.
    yields_then (yields_line products_line) (λ products p.
    yields_then (yields_line suppliers_line) (λ suppliers s.
    yields_then (yields_times (yields_line docks_line) (length suppliers)) (λ docks d.
    yields_then (yields_line plant_docks_line) (λ plant_docks q.
    yields_give _ (record { fields = f; products = p; suppliers = s; dock_lines = d.0; docks = d.1; plant_docks = q }) refl)))))

yields_instance : (m : Limits) → Yields [] (InstanceMeets m) printed_instance (instance_lines m)
unfolding instance_lines printed_instance
yields_instance m =
    yields_then (yields_number "transport=" (0 to 1000)) (λ αT t.
    yields_then (yields_number "inventory=" (0 to 1000)) (λ αI v.
    yields_then (yields_number "extra=" (0 to 1000)) (λ αE x.
    yields_then (yields_number "items=" (1 to m.items)) (λ item_count a.
    yields_then (yields_number "trucks=" (1 to m.trucks)) (λ truck_count b.
    yields_then (yields_times (yields_line item_line) item_count) (λ items c.
    yields_then (yields_times yields_truck truck_count) (λ trucks d.
    yields_give _ (record { head = omega (arith, t, v, x, c.0, d.0); items = c.1; trucks = d.1 }) (rw (c.0, d.0)))))))))

-- ---- the plan
yields_stacks : (most items trucks count : ℕ) (earlier : List ℕ) (loaded : ℕ)
    → Yields [] (λ p. (length p ≡ count) × StacksMeet most items trucks earlier loaded p) (λ p. flat_map pair_bytes (map printed_stack p))
    (stack_lines most items trucks count earlier loaded)
unfolding stack_lines flat_map
yields_stacks most items trucks zero earlier loaded = yields_none [] (refl, tt) refl
yields_stacks most items trucks (suc count) earlier loaded =
    yields_then (yields_line (stack_line trucks earlier)) (λ fields f.
    yields_then (yields_line (load_line most items loaded)) (λ load l.
    yields_then (yields_stacks most items trucks count (stack_number fields ∷ earlier) (loaded + length load)) (λ p k.
    yields_give _ (ap suc k.0, (f, l, k.1))
    (sym (append_assoc (ended (printed_line "stack=" fields)) (ended (printed_line "load=" load)) (flat_map pair_bytes (map printed_stack p)))))))

abbrev PlanMeets : Limits → Instance → List Stack → Type 0
PlanMeets m i p = (length p ≤ m.stacks) × StacksMeet m.loads (length i.items) (length i.trucks) [] 0 p

yields_plan : (m : Limits) (i : Instance) → Yields [] (PlanMeets m i) printed_plan (plan_lines m i)
unfolding plan_lines printed_plan plan_of
yields_plan m i =
    yields_then (yields_number "stacks=" (0 to m.stacks)) (λ count c.
    yields_as (yields_stacks m.loads (length i.items) (length i.trucks) count [] 0) (λ p k. ((omega (arith, k.0), k.1), rw k.0)))

-- ---- both files
-- of a whole file
yielded : {A : Type 0} (P : A → Type 0) (text : A → List ℕ) (bs : List ℕ) (a : A) (r : Outcome A)
    → Leaves (λ b rest. P b × (bs ≡ text b ++ rest)) r → Finds (Wholly a) r → P a × (bs ≡ text a)
yielded P text bs a (found b n rest) h k = (subst P k.0 h.0, h.1 ∙ ap₂ (λ c w. text c ++ w) k.0 k.1 ∙ append-nil (text a))
yielded P text bs a (wrong_form n) h k = absurd k
yielded P text bs a (out_of_range n) h k = absurd k

-- an instance that was read is in range and was printed: both at once, since the same walk through the readers gives both
pub instance_off : (m : Limits) (bs : List ℕ) (i : Instance) → Finds (Wholly i) (instance_lines m 1 bs) → InstanceMeets m i × (bs ≡ printed_instance i)
instance_off m bs i h = yielded (InstanceMeets m) printed_instance bs i (instance_lines m 1 bs) ((yields_instance m).yields 1 bs) h

-- so are both files
pub read_off : (m : Limits) (instance plan : List ℕ) (r : Readable m instance plan)
    → FilesMeet m r.says r.stacks × IsPrinted instance plan r.says r.stacks
read_off m instance plan r =
    let i = r.says in
    let p = r.stacks in
    let h = (read_reads m instance plan i p).0 r.read in
    let a = instance_off m instance i h.says in
    let b = yielded (PlanMeets m i) printed_plan plan p (plan_lines m i 1 plan) ((yields_plan m i).yields 1 plan) h.stacks in
    (record { instance = a.0; stack_count = b.0.0; stacks = b.0.1 }, record { says = a.1; stacks = b.1 })

pub read_printed_lem : (m : Limits) → ReadPrinted m
read_printed_lem m instance plan r = (read_off m instance plan r).1
