-- The rows of the stacks and the words of their loads: the tests pass exactly where they are the words of stacks that meet their lines.
use mathlib.Core.Path.{◌≡◌, refl, sym, ap, ap₂, ◌∙◌}
use mathlib.Core.Bool.{Bool, true, cond, not, ◌&&◌}
use mathlib.Core.Option.{none, some}
use mathlib.Core.List.{List, [], ◌∷◌, ◌++◌, map, flat_map, append_assoc}
use Prim.Native.Nat.{ℕ, zero, suc, ◌+◌, ◌-◌, ◌*◌, ◌≤◌}
use native.Mathlib.Omega.{arith}
use lib.Dec.{leb, eqb}
use lib.ListN.{length, get_or, take, drop, length-append, length-take, length-drop, take-append-drop, drop_of_length-le}
use lib.Seq.{take_at, drop_at, take-add, drop-drop, drop-cons, get_or-take}
use Rattle.meaning.specs.Lists.{Every, all, between, listed, chunks}
use Rattle.meaning.specs.Model.{Stack, number, stack_number}
use Rattle.meaning.specs.Files.{all_within, stack_ranges}
use Rattle.meaning.specs.Table.{stack_words, load_entries, stack_in}
use Rattle.meaning.specs.Meets.{StacksMeet}
use Rattle.meaning.proofs.Tests.{and_reads, le_reads, eq_reads, between_reads}
use Rattle.meaning.proofs.Lists.{all_reads, every_reads, every_take, every_drop}
use Rattle.meaning.proofs.Digits.{chosen}
use Rattle.meaning.proofs.Decode.{From, past, start, word_at, one_stack_words, length_one_stack_words}
use Rattle.table.proofs.Parts.{part_front}
use Rattle.stored.specs.Parts.{stack_stored, entries_of}
use Rattle.stored.proofs.Rows.{stack_reads}

-- a row of eight words is its six fields and two numbers
row_eight : (row : List ℕ) → length row ≡ 8 → take 6 row ++ (get_or row 6 0 ∷ get_or row 7 0 ∷ []) ≡ row
row_eight row e =
    let short : length row ≤ 8 = omega (arith, e) in
    let last : drop 8 row ≡ [] = drop_of_length-le row short in
    let two : drop 6 row ≡ get_or row 6 0 ∷ get_or row 7 0 ∷ [] =
    drop-cons row 6 0 (omega (arith, e)) ∙ ap (λ (r : List ℕ). get_or row 6 0 ∷ r) (drop-cons row 7 0 (omega (arith, e)) ∙ ap (λ (r : List ℕ). get_or row 7 0 ∷ r) last) in
    ap (λ (r : List ℕ). take 6 row ++ r) (sym two) ∙ take-append-drop 6 row

-- all numbers of a part of a front pass where those of the front do
all_part : (test : ℕ → Bool) (a b n : ℕ) (l : List ℕ) → a + b ≤ n → all test (take n l) ≡ true → all test (take b (drop a l)) ≡ true
all_part test a b n l h e =
    let P : ℕ → Type 0 = λ k. test k ≡ true in
    let front = (every_reads P (take n l)).1 ((all_reads test (take n l)).0 e) in
    let part = every_take P b (drop a (take n l)) (every_drop P a (take n l) front) in
    (all_reads test (take b (drop a l))).1 ((every_reads P (take b (drop a l))).0 (rw (part_front a b n l h) at part))

all_append : (test : ℕ → Bool) (l r : List ℕ) → all test l ≡ true → all test r ≡ true → all test (l ++ r) ≡ true
unfolding all
all_append test [] r a b = b
all_append test (n ∷ l) r a b = let h = (and_reads (test n) (all test l)).0 a in (and_reads _ _).1 (h.0, all_append test l r h.1 b)

module _ (most items trucks : ℕ) where
  -- ---- from the words to the stacks: `loads` are the words from the loads on
  module _ (loads : List ℕ) (total : ℕ) (room : total ≤ length loads) (each : all (between 1 items) (take total loads) ≡ true) where
    abbrev pub stacks_of : List (List ℕ) → List Stack
    stacks_of rows = map (stack_in loads) rows

    pub record Stacked (earlier : List ℕ) (loaded : ℕ) (rows : List (List ℕ)) : Type 0 where
      pub upto : loaded ≤ total
      pub meets : StacksMeet most items trucks earlier loaded (stacks_of rows)
      pub words : stack_words loaded (stacks_of rows) ≡ flat_map (λ (r : List ℕ). r) rows
      pub entries : load_entries (stacks_of rows) ≡ take (total - loaded) (drop loaded loads)

    pub stacks_up : (earlier : List ℕ) (loaded : ℕ) (rows : List (List ℕ)) → Every (λ (r : List ℕ). length r ≡ 8) rows
        → entries_of most trucks earlier loaded rows ≡ some total → Stacked earlier loaded rows
    unfolding entries_of stack_words load_entries stack_in flat_map
    stacks_up earlier loaded [] wide e =
        let same : loaded ≡ total = cc in
        let none_left : total - loaded ≡ 0 = omega (arith, same) in
        record { upto = omega (arith, same); meets = tt; words = refl; entries = sym (ap (λ (k : ℕ). take k (drop loaded loads)) none_left) }
    stacks_up earlier loaded (row ∷ rows) wide e =
        let c = get_or row 7 0 in
        let fits = chosen (stack_stored most trucks loaded row && not (listed (get_or row 0 0) earlier)) (entries_of most trucks (get_or row 0 0 ∷ earlier) (loaded + c) rows) total e in
        let t = (and_reads (stack_stored most trucks loaded row) (not (listed (get_or row 0 0) earlier))).0 fits.0 in
        let s = stack_reads most trucks loaded row t.0 in
        let later = stacks_up (get_or row 0 0 ∷ earlier) (loaded + c) rows wide.1 fits.1 in
        let first : get_or row 6 0 ≡ loaded = (eq_reads (get_or row 6 0) loaded).0 s.first in
        let load = take c (drop (get_or row 6 0) loads) in
        let same : load ≡ take c (drop loaded loads) = ap (λ (k : ℕ). take c (drop k loads)) first in
        let count : length load ≡ c = ap length same ∙ length-take c (drop loaded loads) ∙ omega (arith, length-drop loaded loads, later.upto, room) in
        let head : get_or (take 6 row) 0 0 ≡ get_or row 0 0 = get_or-take 6 row 0 0 (omega arith) in
        let six : length (take 6 row) ≡ 6 = length-take 6 row ∙ omega (arith, wide.0) in
        let some-entry = (between_reads 1 64 c).0 s.count in
        let numbers : all (between 1 items) load ≡ true = ap (all (between 1 items)) same ∙ all_part (between 1 items) loaded c total loads later.upto each in
        let left : total - loaded ≡ c + (total - (loaded + c)) = omega (arith, later.upto) in
        record {
          upto = omega (arith, later.upto);
          meets = (
            record { least = omega (arith, six); most = omega (arith, six); fits = (and_reads _ _).1 (s.range, rw head t.1) },
            record { least = omega (arith, count, some-entry); most = omega (arith, count, some-entry); fits = (and_reads _ _).1 (numbers, (le_reads (loaded + length load) most).1 (omega (arith, count, s.total))) },
            rw (head, count) later.meets,
          );
          words =
              ap₂ ◌++◌ (ap₂ (λ (k n : ℕ). take 6 row ++ (k ∷ n ∷ [])) (sym first) count ∙ row_eight row wide.0)
              (ap (λ (k : ℕ). stack_words (loaded + k) (stacks_of rows)) count ∙ later.words);
          entries =
              ap₂ ◌++◌ same (later.entries ∙ ap (take (total - (loaded + c))) (sym (drop-drop c loaded loads)))
              ∙ sym (take-add c (total - (loaded + c)) (drop loaded loads)) ∙ ap (λ (k : ℕ). take k (drop loaded loads)) (sym left);
        }

  -- ---- from the stacks to the words
  pub loads_down : (earlier : List ℕ) (loaded : ℕ) (p : List Stack) → StacksMeet most items trucks earlier loaded p → all (between 1 items) (load_entries p) ≡ true
  unfolding load_entries flat_map all
  loads_down earlier loaded [] h = refl
  loads_down earlier loaded (s ∷ p) h =
      let entries = ((and_reads (all (between 1 items) s.load) (leb (loaded + length s.load) most)).0 h.1.fits).0 in
      all_append (between 1 items) s.load (load_entries p) entries (loads_down (number s ∷ earlier) (loaded + length s.load) p h.2)

  pub stacks_down : (earlier : List ℕ) (loaded : ℕ) (p : List Stack) (rest : List ℕ) → StacksMeet most items trucks earlier loaded p
      → entries_of most trucks earlier loaded (chunks 8 (length p) (stack_words loaded p ++ rest)) ≡ some (loaded + length (load_entries p))
  unfolding entries_of stack_words load_entries flat_map chunks
  stacks_down earlier loaded [] rest h = let e : loaded ≡ loaded + 0 = omega arith in ap (λ (k : ℕ). some k) e
  stacks_down earlier loaded (s ∷ p) rest h =
      let row = one_stack_words loaded s in
      let six : length s.fields ≡ 6 = omega (arith, h.0.least, h.0.most) in
      let eight = length_one_stack_words loaded s six in
      let later = stack_words (loaded + length s.load) p in
      let from6 : From row 6 (loaded ∷ length s.load ∷ []) = past 6 s.fields _ (start row) six in
      let from7 : From row 7 (length s.load ∷ []) = past 1 (loaded ∷ []) _ from6 refl in
      let fields : take 6 row ≡ s.fields = take_at s.fields _ 6 six in
      let name : get_or row 0 0 ≡ number s = sym (get_or-take 6 row 0 0 (omega arith)) ∙ ap (λ (l : List ℕ). get_or l 0 0) fields in
      let line = (and_reads (all_within (stack_ranges trucks) s.fields) (not (listed (stack_number s.fields) earlier))).0 h.0.fits in
      let load = (and_reads (all (between 1 items) s.load) (leb (loaded + length s.load) most)).0 h.1.fits in
      let range = ap (all_within (stack_ranges trucks)) fields ∙ line.0 in
      let count = ap (between 1 64) (word_at from7) ∙ (between_reads 1 64 (length s.load)).1 (h.1.least, h.1.most) in
      let first = ap (λ (k : ℕ). eqb k loaded) (word_at from6) ∙ (eq_reads loaded loaded).1 refl in
      let total = ap (λ (k : ℕ). leb (loaded + k) most) (word_at from7) ∙ load.1 in
      let other = ap (λ (k : ℕ). not (listed k earlier)) name ∙ line.1 in
      let fits : (stack_stored most trucks loaded row && not (listed (get_or row 0 0) earlier)) ≡ true =
      (and_reads _ _).1 ((and_reads _ _).1 ((and_reads _ _).1 (range, count), (and_reads _ _).1 (first, total)), other) in
      let sum : loaded + length s.load + length (load_entries p) ≡ loaded + length (s.load ++ load_entries p) = omega (arith, length-append s.load (load_entries p)) in
      let cut : chunks 8 (suc (length p)) ((row ++ later) ++ rest) ≡ row ∷ chunks 8 (length p) (later ++ rest) =
      ap (chunks 8 (suc (length p))) (append_assoc row later rest)
      ∙ ap₂ (λ (a b : List ℕ). a ∷ chunks 8 (length p) b) (take_at row (later ++ rest) 8 eight) (drop_at row (later ++ rest) 8 eight) in
      ap (entries_of most trucks earlier loaded) cut
      ∙ ap (λ (b : Bool). cond b (entries_of most trucks (get_or row 0 0 ∷ earlier) (loaded + get_or row 7 0) (chunks 8 (length p) (later ++ rest))) none) fits
      ∙ ap₂ (λ (k n : ℕ). entries_of most trucks (k ∷ earlier) (loaded + n) (chunks 8 (length p) (later ++ rest))) name (word_at from7)
      ∙ stacks_down (number s ∷ earlier) (loaded + length s.load) p rest h.2
      ∙ ap (λ (k : ℕ). some k) sum

  -- all loads hold at most so many entries
  pub entries_most : (earlier : List ℕ) (loaded : ℕ) (rows : List (List ℕ)) (total : ℕ) → loaded ≤ most → entries_of most trucks earlier loaded rows ≡ some total → total ≤ most
  unfolding entries_of
  entries_most earlier loaded [] total h e = let same : loaded ≡ total = cc in omega (arith, same, h)
  entries_most earlier loaded (row ∷ rows) total h e =
      let fits = chosen (stack_stored most trucks loaded row && not (listed (get_or row 0 0) earlier)) (entries_of most trucks (get_or row 0 0 ∷ earlier) (loaded + get_or row 7 0) rows) total e in
      let t = (and_reads (stack_stored most trucks loaded row) (not (listed (get_or row 0 0) earlier))).0 fits.0 in
      entries_most (get_or row 0 0 ∷ earlier) (loaded + get_or row 7 0) rows total (stack_reads most trucks loaded row t.0).total fits.1

-- ---- rows that stand within some words
pub chunks_wide : (w n : ℕ) (l : List ℕ) → w * n ≤ length l → Every (λ (r : List ℕ). length r ≡ w) (chunks w n l)
unfolding chunks
chunks_wide w zero l h = tt
chunks_wide w (suc n) l h =
    let e : w * suc n ≡ w + w * n = omega arith in
    (length-take w l ∙ omega (arith, h, e), chunks_wide w n (drop w l) (omega (arith, h, e, length-drop w l)))

pub chunks_joined : (w n : ℕ) (l : List ℕ) → flat_map (λ (r : List ℕ). r) (chunks w n l) ≡ take (w * n) l
unfolding chunks flat_map
chunks_joined w zero l = let e : w * 0 ≡ 0 = omega arith in sym (ap (λ (k : ℕ). take k l) e)
chunks_joined w (suc n) l =
    let e : w * suc n ≡ w + w * n = omega arith in
    ap (λ (r : List ℕ). take w l ++ r) (chunks_joined w n (drop w l)) ∙ sym (take-add w (w * n) l) ∙ ap (λ (k : ℕ). take k l) (sym e)
