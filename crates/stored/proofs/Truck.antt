-- The test of a truck's 160 words: it passes exactly where they are the words of a truck that meets its lines.
use mathlib.Core.Path.{◌≡◌, refl, sym, ap, ap₂, ◌∙◌}
use mathlib.Core.Bool.{Bool, true, false, ◌&&◌}
use mathlib.Core.List.{List, [], ◌∷◌, ◌++◌, map, flat_map, append_assoc}
use Prim.Native.Nat.{ℕ, zero, suc, ◌+◌, ◌-◌, ◌*◌, ◌≤◌}
use Prim.Native.String.{String}
use native.Mathlib.Omega.{arith}
use lib.ListN.{length, get_or, take, drop, replicate, length-append, length-take, length-drop, length-map, take-append-drop}
use lib.Seq.{take_at, drop_at, take-take, drop-drop}
use Rattle.meaning.specs.Lists.{Every, all, up_from, chunks, padded}
use Rattle.meaning.specs.Model.{Truck}
use Rattle.meaning.specs.Files.{all_within, truck_ranges, identifiers_line, docks_line}
use Rattle.meaning.specs.Table.{counted_words, spare_words, truck_words, cut_lists, truck_in}
use Rattle.meaning.specs.Meets.{Meets, TruckMeets}
use Rattle.meaning.proofs.Tests.{true≢false, and_reads}
use Rattle.meaning.proofs.Lists.{every_map}
use Rattle.meaning.proofs.Decode.{From, past, drop_from, word_at, length_padded, length_runs, start, from20, from53, from62, from70, from134, from143}
use Rattle.meaning.proofs.Decode.{product_words, supplier_words, dock_count_words, dock_words, plant_dock_words, truck_size}
use Rattle.meaning.proofs.Ranges.{truck_fits}
use Rattle.stored.specs.Parts.{zeros, entries_stored, docks_stored, truck_stored}
use Rattle.stored.proofs.Packed.{chunks_front, zeros_are, zeros_made, entries_up, entries_down, list_up}

-- ---- the docks, supplier by supplier
docks_in_turn : ℕ → List ℕ → List ℕ → Bool
docks_in_turn zero counts rows = zeros counts && zeros rows
docks_in_turn (suc n) [] rows = false
docks_in_turn (suc n) (c ∷ counts) rows = entries_stored c (take 8 rows) && docks_in_turn n counts (drop 8 rows)

all_shift : (f : ℕ → Bool) (a n : ℕ) → all f (up_from (suc a) n) ≡ all (λ k. f (suc k)) (up_from a n)
unfolding all up_from
all_shift f a zero = refl
all_shift f a (suc n) = ap (λ (b : Bool). f (suc a) && b) (all_shift f (suc a) n)

all_same : (f g : ℕ → Bool) (l : List ℕ) → ((k : ℕ) → f k ≡ g k) → all f l ≡ all g l
unfolding all
all_same f g [] e = refl
all_same f g (k ∷ l) e = ap₂ ◌&&◌ (e k) (all_same f g l e)

and_assoc : (a b c : Bool) → ((a && b) && c) ≡ (a && (b && c))
and_assoc true b c = refl
and_assoc false b c = refl

docks_turn : (n : ℕ) (counts rows : List ℕ) → n ≤ length counts → docks_stored n counts rows ≡ docks_in_turn n counts rows
unfolding docks_stored docks_in_turn all up_from
docks_turn zero counts rows h = refl
docks_turn (suc n) [] rows h = absurd (omega arith)
docks_turn (suc n) (c ∷ counts) rows h =
    let test : ℕ → Bool = λ k. entries_stored (get_or counts k 0) (take 8 (drop (8 * k) (drop 8 rows))) in
    let moved : (k : ℕ) → entries_stored (get_or counts k 0) (take 8 (drop (8 * suc k) rows)) ≡ test k =
    λ k. let e : 8 * suc k ≡ 8 + 8 * k = omega arith in ap (λ (r : List ℕ). entries_stored (get_or counts k 0) (take 8 r)) (ap (λ (j : ℕ). drop j rows) e ∙ sym (drop-drop (8 * k) 8 rows)) in
    let later : all (λ k. entries_stored (get_or (c ∷ counts) k 0) (take 8 (drop (8 * k) rows))) (up_from 1 n) ≡ all test (up_from 0 n) =
    all_shift (λ k. entries_stored (get_or (c ∷ counts) k 0) (take 8 (drop (8 * k) rows))) 0 n ∙ all_same _ test (up_from 0 n) moved in
    let e : 8 * suc n ≡ 8 + 8 * n = omega arith in
    let behind : drop (8 * suc n) rows ≡ drop (8 * n) (drop 8 rows) = ap (λ (j : ℕ). drop j rows) e ∙ sym (drop-drop (8 * n) 8 rows) in
    ap₂ (λ (a : Bool) (r : List ℕ). (entries_stored c (take 8 rows) && a) && (zeros (drop n counts) && zeros r)) later behind
    ∙ and_assoc (entries_stored c (take 8 rows)) (all test (up_from 0 n)) (zeros (drop n counts) && zeros (drop (8 * n) (drop 8 rows)))
    ∙ ap (λ (b : Bool). entries_stored c (take 8 rows) && b) (docks_turn n counts (drop 8 rows) (omega arith))

-- what `r` counts and `r` rows hold that pass, of which n are not empty
record Docked (n r : ℕ) (counts rows : List ℕ) : Type 0 where
  each : Every (Meets docks_line) (cut_lists (take n counts) (chunks 8 r rows))
  size : length (cut_lists (take n counts) (chunks 8 r rows)) ≡ n
  counted : padded r (map length (cut_lists (take n counts) (chunks 8 r rows))) ≡ counts
  listed : padded (8 * r) (flat_map (padded 8) (cut_lists (take n counts) (chunks 8 r rows))) ≡ rows

docks_up : (n r : ℕ) (counts rows : List ℕ) → length counts ≡ r → length rows ≡ 8 * r → docks_in_turn n counts rows ≡ true → Docked n r counts rows
unfolding docks_in_turn cut_lists chunks flat_map
docks_up zero r counts rows a b e =
    let h = (and_reads (zeros counts) (zeros rows)).0 e in
    let none : r - 0 ≡ length counts = omega (arith, a) in
    let empty : 8 * r - 0 ≡ length rows = omega (arith, b) in
    record {
      each = tt;
      size = refl;
      counted = ap (λ (k : ℕ). replicate k 0) none ∙ sym (zeros_are counts h.0);
      listed = ap (λ (k : ℕ). replicate k 0) empty ∙ sym (zeros_are rows h.1);
    }
docks_up (suc n) r [] rows a b e = absurd (true≢false (sym e))
docks_up (suc n) zero (c ∷ counts) rows a b e = absurd (omega (arith, a))
docks_up (suc n) (suc r) (c ∷ counts) rows a b e =
    let t = (and_reads (entries_stored c (take 8 rows)) (docks_in_turn n counts (drop 8 rows))).0 e in
    let wide : length (take 8 rows) ≡ 8 = length-take 8 rows ∙ omega (arith, b) in
    let one = entries_up "docks=" c (take 8 rows) t.0 in
    let d = take c (take 8 rows) in
    let later = docks_up n r counts (drop 8 rows) (omega (arith, a)) (length-drop 8 rows ∙ omega (arith, b)) t.1 in
    let ds = cut_lists (take n counts) (chunks 8 r (drop 8 rows)) in
    let full : padded 8 d ≡ take 8 rows = ap (λ (w : ℕ). padded w d) (sym wide) ∙ one.words in
    let left : suc r - suc (length (map length ds)) ≡ r - length (map length ds) = omega arith in
    let size : length (padded 8 d ++ flat_map (padded 8) ds) ≡ 8 + length (flat_map (padded 8) ds) = length-append (padded 8 d) (flat_map (padded 8) ds) ∙ ap (λ (k : ℕ). k + length (flat_map (padded 8) ds)) (ap length full ∙ wide) in
    let rest : 8 * suc r - length (padded 8 d ++ flat_map (padded 8) ds) ≡ 8 * r - length (flat_map (padded 8) ds) = omega (arith, size) in
    record {
      each = (rw wide at one.meets, later.each);
      size = ap suc later.size;
      counted = ap₂ (λ (k : ℕ) (l : List ℕ). k ∷ l) one.count (ap (λ (k : ℕ). map length ds ++ replicate k 0) left ∙ later.counted);
      listed =
          ap (λ (k : ℕ). (padded 8 d ++ flat_map (padded 8) ds) ++ replicate k 0) rest
          ∙ append_assoc (padded 8 d) (flat_map (padded 8) ds) (replicate (8 * r - length (flat_map (padded 8) ds)) 0)
          ∙ ap₂ ◌++◌ full later.listed ∙ take-append-drop 8 rows;
    }

docks_down : (r : ℕ) (ds : List (List ℕ)) → length ds ≤ r → Every (Meets docks_line) ds
    → docks_in_turn (length ds) (padded r (map length ds)) (padded (8 * r) (flat_map (padded 8) ds)) ≡ true
unfolding docks_in_turn flat_map
docks_down r [] few h = (and_reads _ _).1 (zeros_made (r - 0), zeros_made (8 * r - 0))
docks_down zero (d ∷ ds) few h = absurd (omega arith)
docks_down (suc r) (d ∷ ds) few h =
    let rows = flat_map (padded 8) ds in
    let wide : length (padded 8 d) ≡ 8 = length_padded 8 d h.0.most in
    let left : suc r - suc (length (map length ds)) ≡ r - length (map length ds) = omega arith in
    let rest : 8 * suc r - length (padded 8 d ++ rows) ≡ 8 * r - length rows = omega (arith, length-append (padded 8 d) rows, wide) in
    let zs = replicate {A = ℕ} (8 * r - length rows) 0 in
    let stands : (padded 8 d ++ rows) ++ replicate (8 * suc r - length (padded 8 d ++ rows)) 0 ≡ padded 8 d ++ (rows ++ zs) =
    ap (λ (k : ℕ). (padded 8 d ++ rows) ++ replicate k 0) rest ∙ append_assoc (padded 8 d) rows zs in
    let one = ap (entries_stored (length d)) (ap (take 8) stands ∙ take_at (padded 8 d) (rows ++ zs) 8 wide) ∙ entries_down "docks=" 8 d h.0 in
    let later =
    ap₂ (docks_in_turn (length ds)) (ap (λ (k : ℕ). map length ds ++ replicate k 0) left) (ap (drop 8) stands ∙ drop_at (padded 8 d) (rows ++ zs) 8 wide)
    ∙ docks_down r ds (omega arith) h.1 in
    (and_reads _ _).1 (one, later)

-- ---- the truck
-- a part and what stands behind it
glue : (at w : ℕ) (ws : List ℕ) → take w (drop at ws) ++ drop (at + w) ws ≡ drop at ws
glue at w ws = ap (λ (r : List ℕ). take w (drop at ws) ++ r) (sym (drop-drop w at ws)) ∙ take-append-drop w (drop at ws)

pub truck_up : (ws : List ℕ) → length ws ≡ 160 → truck_stored ws ≡ true → TruckMeets (truck_in ws) × (truck_words (truck_in ws) ≡ ws)
unfolding truck_stored truck_in truck_words
truck_up ws long e =
    let fields = all_within truck_ranges (take 20 ws) in
    let products = entries_stored (get_or ws 20 0) (take 32 (drop 21 ws)) in
    let suppliers = entries_stored (get_or ws 53 0) (take 8 (drop 54 ws)) in
    let docks = docks_stored (get_or ws 53 0) (take 8 (drop 62 ws)) (take 64 (drop 70 ws)) in
    let plant_docks = entries_stored (get_or ws 134 0) (take 8 (drop 135 ws)) in
    let spare = zeros (drop 143 ws) in
    let a = (and_reads fields (products && (suppliers && (docks && (plant_docks && spare))))).0 e in
    let b = (and_reads products (suppliers && (docks && (plant_docks && spare)))).0 a.1 in
    let c = (and_reads suppliers (docks && (plant_docks && spare))).0 b.1 in
    let d = (and_reads docks (plant_docks && spare)).0 c.1 in
    let f = (and_reads plant_docks spare).0 d.1 in
    let first = list_up "products=" 20 32 ws (omega (arith, long)) b.0 in
    let second = list_up "suppliers=" 53 8 ws (omega (arith, long)) c.0 in
    let third = list_up "plantdocks=" 134 8 ws (omega (arith, long)) f.0 in
    let n = get_or ws 53 0 in
    let counts = take 8 (drop 62 ws) in
    let rows = take 64 (drop 70 ws) in
    let eight : length counts ≡ 8 = simp (length-take, length-drop) (omega (arith, long)) in
    let sixty : length rows ≡ 8 * 8 = simp (length-take, length-drop) (omega (arith, long)) in
    let few = entries_up "suppliers=" n (take 8 (drop 54 ws)) c.0 in
    let size : length (take 8 (drop 54 ws)) ≡ 8 = simp (length-take, length-drop) (omega (arith, long)) in
    let docked = docks_up n 8 counts rows eight sixty (sym (docks_turn n counts rows (omega (arith, few.few, size, eight))) ∙ d.0) in
    let same : cut_lists (take n counts) (chunks 8 8 rows) ≡ cut_lists (take n (drop 62 ws)) (chunks 8 8 (drop 70 ws)) =
    ap₂ cut_lists (take-take n 8 (drop 62 ws) (omega (arith, few.few, size))) (chunks_front 8 8 8 (drop 70 ws) (omega arith)) in
    let own : length (take 20 ws) ≡ 20 = length-take 20 ws ∙ omega (arith, long) in
    let supplied : length (take n (drop 54 ws)) ≡ n = length-take n (drop 54 ws) ∙ omega (arith, few.few, size, length-drop 54 ws, long) in
    let last : replicate spare_words 0 ≡ drop 143 ws =
    let left : length (drop 143 ws) ≡ 17 = length-drop 143 ws ∙ omega (arith, long) in
    ap (λ (k : ℕ). replicate k 0) (sym left) ∙ sym (zeros_are (drop 143 ws) f.1) in
    let from134 = ap₂ ◌++◌ third.words last ∙ glue 134 9 ws in
    let from70 = ap₂ ◌++◌ (ap (λ (ds : List (List ℕ)). padded 64 (flat_map (padded 8) ds)) (sym same) ∙ docked.listed) from134 ∙ glue 70 64 ws in
    let from62 = ap₂ ◌++◌ (ap (λ (ds : List (List ℕ)). padded 8 (map length ds)) (sym same) ∙ docked.counted) from70 ∙ glue 62 8 ws in
    let from53 = ap₂ ◌++◌ second.words from62 ∙ glue 53 9 ws in
    let from20 = ap₂ ◌++◌ first.words from53 ∙ glue 20 33 ws in (
      record {
        fields = record { least = omega (arith, own); most = omega (arith, own); fits = a.0 };
        products = first.meets;
        suppliers = second.meets;
        dock_lines = ap length (sym same) ∙ docked.size ∙ sym supplied;
        docks = rw same at docked.each;
        plant_docks = third.meets;
      },
      ap (λ (r : List ℕ). take 20 ws ++ r) from20 ∙ take-append-drop 20 ws,
    )

-- a part of the words that begin at a place
pub part_is : {ws : List ℕ} {at : ℕ} (w : ℕ) (part rest : List ℕ) → length part ≡ w → From ws at (part ++ rest) → take w (drop at ws) ≡ part
part_is w part rest e h = ap (take w) (drop_from h) ∙ take_at part rest w e

-- a list behind its count, among the words of which it is a part
list_down : {ws : List ℕ} {at : ℕ} (key : String) (w : ℕ) (l rest : List ℕ) → From ws at (counted_words w l ++ rest) → Meets (identifiers_line key w) l
    → entries_stored (get_or ws at 0) (take w (drop (at + 1) ws)) ≡ true
list_down key w l rest h k =
    let behind = past 1 (length l ∷ []) (padded w l ++ rest) h refl in
    ap₂ entries_stored (word_at h) (part_is w (padded w l) rest (length_padded w l k.most) behind) ∙ entries_down key w l k

fields_begin : (t : Truck) → From (truck_words t) 0 (t.fields ++ product_words t)
unfolding truck_words
fields_begin t = start (truck_words t)

pub truck_down : (t : Truck) → TruckMeets t → (length (truck_words t) ≡ 160) × (truck_stored (truck_words t) ≡ true)
unfolding truck_stored
truck_down t h =
    let fits = truck_fits t h in
    let ws = truck_words t in
    let fields : take 20 ws ≡ t.fields = part_is 20 t.fields (product_words t) fits.fields (fields_begin t) in
    let products = list_down "products=" 32 t.products (supplier_words t) (from20 t fits) h.products in
    let suppliers = list_down "suppliers=" 8 t.suppliers (dock_count_words t) (from53 t fits) h.suppliers in
    let plant_docks = list_down "plantdocks=" 8 t.plant_docks (replicate spare_words 0) (from134 t fits) h.plant_docks in
    let few : length t.docks ≤ 8 = omega (arith, fits.dock_lines, fits.suppliers) in
    let counts = padded 8 (map length t.docks) in
    let rows = padded 64 (flat_map (padded 8) t.docks) in
    let eight : length counts ≡ 8 = length_padded 8 (map length t.docks) (omega (arith, length-map t.docks length, few)) in
    let sixty : length rows ≡ 64 = length_runs 8 (padded 8) 8 t.docks (every_map _ _ (length_padded 8) t.docks fits.docks) few in
    let count : get_or ws 53 0 ≡ length t.docks = word_at (from53 t fits) ∙ sym fits.dock_lines in
    let docks : docks_stored (get_or ws 53 0) (take 8 (drop 62 ws)) (take 64 (drop 70 ws)) ≡ true =
    ap₂ (λ (c r : List ℕ). docks_stored (get_or ws 53 0) c r) (part_is 8 counts (dock_words t) eight (from62 t fits)) (part_is 64 rows (plant_dock_words t) sixty (from70 t fits))
    ∙ ap (λ (k : ℕ). docks_stored k counts rows) count
    ∙ docks_turn (length t.docks) counts rows (omega (arith, eight, few))
    ∙ docks_down 8 t.docks few h.docks in
    let spare = ap zeros (drop_from (from143 t fits)) ∙ zeros_made spare_words in (
      truck_size t fits,
      (and_reads _ _).1 (
        ap (all_within truck_ranges) fields ∙ h.fields.fits,
        (and_reads _ _).1 (
          products,
          (and_reads _ _).1 (
            suppliers,
            (and_reads _ _).1 (
              docks,
              (and_reads _ _).1 (plant_docks, spare),
            ),
          ),
        ),
      ),
    )
