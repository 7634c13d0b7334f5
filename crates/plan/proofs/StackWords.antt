-- The words of stacks that were read one after another: the numbers in their rows, and what one stack more puts into the part.
use mathlib.Core.Path.{◌≡◌, refl, sym, ap, ap₂, ◌∙◌}
use mathlib.Core.List.{List, [], ◌∷◌, ◌++◌, flat_map, append_assoc, append-nil}
use Prim.Native.Nat.{ℕ, zero, suc, ◌+◌, ◌-◌, ◌*◌, ◌≤◌, ◌<◌}
use native.Mathlib.Nat.{add-zero, sub-zero}
use native.Mathlib.Omega.{arith}
use borrow.Rule.Slice.PartMut.{mid_of, put_mid, same_len_mid}
use lib.ListN.{length, get_or, set, replicate, length-append, length-set, replicate-append-replicate, get_or-append}
use lib.Seq.{get_or-append-add}
use Rattle.meaning.specs.declared.Limits.{Limits}
use Rattle.meaning.specs.Lists.{Every, padded}
use Rattle.meaning.specs.Model.{Stack, number}
use Rattle.meaning.specs.Table.{stack_words, load_entries}
use Rattle.meaning.proofs.Lists.{every_append, flat_map_more}
use Rattle.meaning.proofs.Decode.{length_padded, one_stack_words, length_one_stack_words, length_stack_words}
use Rattle.ranges.specs.Ranges.{row_numbers}
use Rattle.plan.specs.Words.{spliced, with_stack, plan_words}
use Rattle.plan.proofs.Runs.{splice_behind, splice_next, splice_apart, set_splices, splice_padded, splice_lent}

-- ---- one stack more
-- the numbers of stacks, the last one first
unfoldable pub earlier_numbers : List Stack → List ℕ
earlier_numbers [] = []
earlier_numbers (s ∷ ss) = earlier_numbers ss ++ number s ∷ []

-- a stack with all fields of its line
abbrev pub SixFields : Stack → Type 0
SixFields s = length s.fields ≡ 6

module _ (s : Stack) where
  pub earlier_more : (ss : List Stack) → earlier_numbers (ss ++ s ∷ []) ≡ number s ∷ earlier_numbers ss
  unfolding earlier_numbers
  earlier_more [] = refl
  earlier_more (x ∷ ss) = ap (λ (l : List ℕ). l ++ number x ∷ []) (earlier_more ss)

  pub loads_more : (ss : List Stack) → load_entries (ss ++ s ∷ []) ≡ load_entries ss ++ s.load
  unfolding load_entries
  loads_more ss = flat_map_more (λ (x : Stack). x.load) ss s

  words_more : (before : ℕ) (ss : List Stack) → stack_words before (ss ++ s ∷ []) ≡ stack_words before ss ++ one_stack_words (before + length (load_entries ss)) s
  unfolding stack_words load_entries flat_map
  words_more before [] = append-nil (one_stack_words before s) ∙ ap (λ (n : ℕ). one_stack_words n s) (sym (add-zero before))
  words_more before (x ∷ ss) =
      let later = before + length x.load in
      let e : later + length (load_entries ss) ≡ before + length (x.load ++ load_entries ss) = omega (arith, length-append x.load (load_entries ss)) in
      ap (λ (l : List ℕ). one_stack_words before x ++ l) (words_more later ss)
      ∙ rw e (sym (append_assoc (one_stack_words before x) (stack_words later ss) _))

-- ---- the numbers in the rows
-- the first row has the last of them
rows_first : (k : ℕ) (row rest : List ℕ) → length row ≡ 8 → row_numbers (suc k) (row ++ rest) ≡ row_numbers k rest ++ get_or row 0 0 ∷ []
unfolding row_numbers
rows_first zero row rest e = ap (λ (n : ℕ). n ∷ []) (get_or-append row rest 0 0 (omega arith))
rows_first (suc k) row rest e =
    let at : 8 * suc k ≡ length row + 8 * k = omega arith in
    rw (at, get_or-append-add row rest (8 * k) 0) (ap (λ (l : List ℕ). get_or rest (8 * k) 0 ∷ l) (rows_first k row rest e))

rows_earlier : (before : ℕ) (ss : List Stack) (rest : List ℕ) → Every SixFields ss → row_numbers (length ss) (stack_words before ss ++ rest) ≡ earlier_numbers ss
unfolding row_numbers stack_words earlier_numbers
rows_earlier before [] rest h = refl
rows_earlier before (s ∷ ss) rest h =
    let later = stack_words (before + length s.load) ss in
    let first : get_or (one_stack_words before s) 0 0 ≡ number s = get_or-append s.fields _ 0 0 (omega (arith, h.0)) in
    rw (append_assoc (one_stack_words before s) later rest)
    (rows_first (length ss) (one_stack_words before s) (later ++ rest) (length_one_stack_words before s h.0)
    ∙ ap₂ (λ (l : List ℕ) (n : ℕ). l ++ n ∷ []) (rows_earlier (before + length s.load) ss rest h.1) first)

-- ---- the part
-- the part holds the stacks, and their loads have `loaded` entries
pub record HoldsStacks (m : Limits) (ss : List Stack) (loaded : ℕ) (part : List ℕ) : Type 0 where
  pub six : Every SixFields ss
  pub counted : loaded ≡ length (load_entries ss)
  pub words : part ≡ plan_words m ss

-- no stack in a cleared part
pub holds_none : (m : Limits) (part : List ℕ) → part ≡ replicate (8 * m.stacks + m.loads) 0 → HoldsStacks m [] 0 part
unfolding plan_words stack_words load_entries flat_map
holds_none m part e =
    record {
      six = tt;
      counted = refl;
      words = e ∙ rw (sub-zero (8 * m.stacks), sub-zero m.loads) (sym (replicate-append-replicate {A = ℕ} (8 * m.stacks) m.loads 0));
    }

module _ {m : Limits} {ss : List Stack} {loaded : ℕ} {part : List ℕ} (held : HoldsStacks m ss loaded part) where
  -- the rows tell the numbers
  pub holds_earlier : row_numbers (length ss) part ≡ earlier_numbers ss
  unfolding plan_words
  holds_earlier = rw (held.words, append_assoc (stack_words 0 ss) _ (padded m.loads (load_entries ss))) (rows_earlier 0 ss _ held.six)

  -- one more
  pub holds_more : (s : Stack) → SixFields s → length ss < m.stacks → loaded + length s.load ≤ m.loads
      → HoldsStacks m (ss ++ s ∷ []) (loaded + length s.load) (with_stack m (length ss) loaded part s)
  unfolding plan_words
  holds_more s e h room =
      let rows = 8 * m.stacks in
      let row = one_stack_words loaded s in
      let before = stack_words 0 ss in
      let entries = load_entries ss in
      let loads = padded m.loads entries in
      let first : 0 + length entries ≡ loaded = omega (arith, held.counted) in
      let wide : length before ≡ 8 * length ss = length_stack_words 0 ss held.six in
      let eight : length row ≡ 8 = length_one_stack_words loaded s e in
      let full : length (padded rows (before ++ row)) ≡ rows = length_padded rows (before ++ row) (simp length-append (omega arith)) in
      let rowPut : spliced (8 * length ss) row part ≡ padded rows (before ++ row) ++ loads =
      ap (spliced (8 * length ss) row) held.words ∙ splice_padded rows (8 * length ss) before row loads wide (omega arith)
      in
      let loadPut : spliced loaded s.load loads ≡ padded m.loads (entries ++ s.load) =
      ap (spliced loaded s.load) (sym (append-nil loads)) ∙ splice_padded m.loads loaded entries s.load [] (sym held.counted) room ∙ append-nil _
      in
      let rows_now : before ++ row ≡ stack_words 0 (ss ++ s ∷ []) = sym (words_more s 0 ss ∙ ap (λ (n : ℕ). before ++ one_stack_words n s) first) in
      record {
        six = (every_append SixFields ss (s ∷ [])).1 (held.six, (e, tt));
        counted = omega (arith, held.counted, ap length (loads_more s ss), length-append (load_entries ss) s.load);
        words =
            ap (spliced (rows + loaded) s.load) rowPut
            ∙ splice_behind (padded rows (before ++ row)) loads s.load loaded (rows + loaded) (omega arith)
            ∙ ap₂ (λ (ws es : List ℕ). padded rows ws ++ es) rows_now (loadPut ∙ ap (padded m.loads) (sym (loads_more s ss)));
      }

-- what reading one stack writes: its line's fields, its load into the part of the loads, which was lent, and two words behind the fields
pub stack_put : (m : Limits) (k loaded n : ℕ) (s : Stack) (part₀ part₁ ys : List ℕ)
    → SixFields s → k < m.stacks → loaded ≤ m.loads → n ≡ length s.load → length part₀ ≡ 8 * m.stacks + m.loads → length part₁ ≡ length part₀
    → length ys ≡ length (mid_of (8 * m.stacks) (length part₁ - 8 * m.stacks) part₁)
    → part₁ ≡ spliced (8 * k) s.fields part₀
    → ys ≡ spliced loaded s.load (mid_of (8 * m.stacks) (length part₁ - 8 * m.stacks) part₁)
    → set (set (put_mid (8 * m.stacks) (length part₁ - 8 * m.stacks) part₁ ys) (8 * k + 6) loaded) (8 * k + 7) n ≡ with_stack m k loaded part₀ s
stack_put m k loaded n s part₀ part₁ ys six h room counted long same lent fieldsPut loadPut =
    let rows = 8 * m.stacks in
    let part₂ = put_mid rows (length part₁ - rows) part₁ ys in
    let tail = loaded ∷ n ∷ [] in
    let same₂ : length part₂ ≡ length part₁ = same_len_mid rows (length part₁ - rows) part₁ ys lent in
    set_splices (set part₂ (8 * k + 6) loaded) (8 * k + 7) n (simp length-set (omega arith))
    ∙ ap (spliced (8 * k + 7) (n ∷ [])) (set_splices part₂ (8 * k + 6) loaded (omega arith))
    ∙ splice_next part₂ (loaded ∷ []) (n ∷ []) (8 * k + 6) (8 * k + 7) (omega arith) (omega arith)
    ∙ ap (spliced (8 * k + 6) tail) (splice_lent part₁ ys s.load rows loaded (omega arith) loadPut)
    ∙ sym (splice_apart part₁ tail s.load (8 * k + 6) (rows + loaded) (omega arith) (omega arith))
    ∙ ap (spliced (rows + loaded) s.load)
    (ap (spliced (8 * k + 6) tail) fieldsPut
    ∙ splice_next part₀ s.fields tail (8 * k) (8 * k + 6) (omega arith) (omega arith)
    ∙ ap (λ (c : ℕ). spliced (8 * k) (s.fields ++ (loaded ∷ c ∷ [])) part₀) counted)
