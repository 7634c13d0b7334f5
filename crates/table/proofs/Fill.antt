-- The words of a model in range are a filled table, and so they are with any words beyond them.
use mathlib.Core.Path.{◌≡◌, refl, sym, ap, ◌∙◌}
use mathlib.Core.List.{List, [], ◌∷◌, ◌++◌, map, flat_map, append_assoc, append-nil}
use Prim.Native.Nat.{ℕ, zero, suc, ◌+◌, ◌-◌, ◌*◌, ◌≤◌, ◌<◌}
use native.Mathlib.Omega.{arith}
use lib.ListN.{length, get_or, replicate, length-append, length-map, get_or-append}
use lib.Seq.{get_or-drop, get_or-append-add}
use Rattle.meaning.specs.declared.Limits.{Limits}
use Rattle.meaning.specs.Lists.{Every, padded}
use Rattle.meaning.specs.Limits.{trucks_at, stacks_at}
use Rattle.meaning.specs.Model.{Instance, Truck, Stack, no_truck, truck_numbered}
use Rattle.meaning.specs.Table.{truck_words, stack_words, load_entries, words, truck_place}
use Rattle.meaning.specs.Meets.{FilesMeet}
use Rattle.meaning.specs.InRange.{TruckFits, Fits}
use Rattle.meaning.proofs.Lists.{every_at, map_at}
use Rattle.meaning.proofs.Decode.{From, past, drop_from, word_at, length_padded, dock_words, from62, one_stack_words, length_one_stack_words}
use Rattle.meaning.proofs.Decode.{behind_stacks, truck_words_at, stack_words_at, instance_decoded, stacks_decoded, decodes}
use Rattle.meaning.proofs.Ranges.{meets_fits}
use Rattle.table.specs.Filled.{Bounded, Filled, TruckNumber}
use Rattle.table.proofs.Parts.{part, part_at, chunk_at}

-- ---- the dock counts of a truck
-- the lengths of short lists, and zeros after them
lengths_most : (most : ℕ) (ds : List (List ℕ)) (zeros k : ℕ) → Every (λ (d : List ℕ). length d ≤ most) ds
    → get_or (map length ds ++ replicate zeros 0) k 0 ≤ most
lengths_most most [] zero k h = omega arith
lengths_most most [] (suc z) zero h = omega arith
lengths_most most [] (suc z) (suc k) h = lengths_most most [] z k h
lengths_most most (d ∷ ds) z zero h = h.0
lengths_most most (d ∷ ds) z (suc k) h = lengths_most most ds z k h.1

dock_counts : (t : Truck) → TruckFits t → (k : ℕ) → k < 8 → get_or (truck_words t) (62 + k) 0 ≤ 8
dock_counts t h k l =
    let counts = map length t.docks in
    let size = length_padded 8 counts (omega (arith, length-map t.docks length, h.dock_lines, h.suppliers)) in
    rw (← get_or-drop 62 (truck_words t) k 0, drop_from (from62 t h), get_or-append (padded 8 counts) (dock_words t) 0 k (omega (arith, size)))
    (lengths_most 8 t.docks (8 - length counts) k h.docks)

-- ---- where the loads of the stacks end
load_end : (before : ℕ) (p : List Stack) (rest : List ℕ) (s : ℕ) → s < length p → Every (λ (a : Stack). length a.fields ≡ 6) p
    → get_or (stack_words before p ++ rest) (8 * s + 6) 0 + get_or (stack_words before p ++ rest) (8 * s + 7) 0 ≤ before + length (load_entries p)
unfolding stack_words load_entries flat_map
load_end before [] rest s l h = absurd (omega arith)
load_end before (a ∷ p) rest zero l h =
    let entries = length a.load in
    let later = stack_words (before + entries) p ++ rest in
    let from6 : From (stack_words before (a ∷ p) ++ rest) 6 (before ∷ entries ∷ later) = record { front = a.fields; whole = simp append_assoc; width = h.0 } in
    let from7 = past 1 (before ∷ []) (entries ∷ later) from6 refl in
    omega (arith, word_at from6, word_at from7, length-append a.load (load_entries p))
load_end before (a ∷ p) rest (suc s) l h =
    let entries = length a.load in
    let row = one_stack_words before a in
    let later = stack_words (before + entries) p in
    let size = length_one_stack_words before a h.0 in
    let first : 8 * suc s + 6 ≡ length row + (8 * s + 6) = omega arith in
    let count : 8 * suc s + 7 ≡ length row + (8 * s + 7) = omega arith in
    rw (append_assoc row later rest, first, count, get_or-append-add row (later ++ rest) (8 * s + 6) 0, get_or-append-add row (later ++ rest) (8 * s + 7) 0)
    (omega (arith, load_end (before + entries) p rest s (omega arith) h.1, length-append a.load (load_entries p)))

-- ---- the table
module _ (m : Limits) (i : Instance) (p : List Stack) (beyond : List ℕ) (r : FilesMeet m i p) where
  abbrev table : List ℕ
  table = words m i p ++ beyond

  fits : Fits m i p
  fits = meets_fits m i p r

  row_held : (n : ℕ) → TruckNumber i n → part (truck_place m n) 160 table ≡ truck_words (truck_numbered i n)
  row_held n h =
      sym (chunk_at 160 (length i.trucks) (n - 1) (trucks_at m) table (omega (arith, h.0, h.1)))
      ∙ ap (λ (rows : List (List ℕ)). get_or rows (n - 1) []) (truck_words_at m i p fits beyond)
      ∙ map_at truck_words i.trucks (n - 1) no_truck [] (omega (arith, h.0, h.1))

  docks_within : (n k : ℕ) → TruckNumber i n → k < 8 → get_or table (truck_place m n + 62 + k) 0 ≤ 8
  docks_within n k h l =
      let e : truck_place m n + 62 + k ≡ truck_place m n + (62 + k) = omega arith in
      let f = every_at TruckFits i.trucks no_truck (n - 1) fits.trucks (omega (arith, h.0, h.1)) in
      rw (e, ← part_at (truck_place m n) 160 (62 + k) table 0 (omega arith), row_held n h) (dock_counts (truck_numbered i n) f k l)

  loads_within : (s : ℕ) → s < length p → get_or table (stacks_at m + 8 * s + 6) 0 + get_or table (stacks_at m + 8 * s + 7) 0 ≤ m.loads
  loads_within s l =
      let first : stacks_at m + 8 * s + 6 ≡ stacks_at m + (8 * s + 6) = omega arith in
      let count : stacks_at m + 8 * s + 7 ≡ stacks_at m + (8 * s + 7) = omega arith in
      rw (first, count, ← get_or-drop (stacks_at m) table (8 * s + 6) 0, ← get_or-drop (stacks_at m) table (8 * s + 7) 0, stack_words_at m i p fits beyond)
      (omega (arith, load_end 0 p (behind_stacks m i p beyond) s l fits.stacks, fits.loads))

  pub table_filled : Bounded m → Filled m (words m i p ++ beyond)
  table_filled b =
      let instance = instance_decoded m i p fits beyond in
      let stacks = stacks_decoded m i p fits beyond in
      record {
        bounded = b;
        room = simp length-append (omega (arith, (decodes m i p fits).size));
        range = rw (instance, stacks) r;
        docks = λ n k h l. docks_within n k (rw instance at h) l;
        loads = λ s l. loads_within s (rw stacks at l);
      }

pub words_filled : (m : Limits) (i : Instance) (p : List Stack) → FilesMeet m i p → Bounded m → Filled m (words m i p)
words_filled m i p r b = rw (append-nil (words m i p)) at (table_filled m i p [] r b)
