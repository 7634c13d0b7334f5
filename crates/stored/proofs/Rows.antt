-- The rows of the stacks in turn: how many entries their loads hold follows from the rows that are left.
use mathlib.Core.Path.{◌≡◌, refl, sym, ap, ap₂, ◌∙◌}
use mathlib.Core.Bool.{Bool, true, false, cond, not, ◌&&◌}
use mathlib.Core.Option.{Option, none, some}
use mathlib.Core.List.{List, [], ◌∷◌}
use Prim.Native.Nat.{ℕ, ◌+◌, ◌-◌, ◌*◌, ◌≤◌, ◌<◌}
use native.Mathlib.Omega.{arith}
use native.Mathlib.Numerals.{add-one}
use lib.Dec.{leb, eqb}
use lib.ListN.{length, get_or, take, drop, drop_of_length-le}
use Rattle.std.proofs.Math.Bool.{and-false}
use Rattle.meaning.specs.Lists.{between, listed, chunks}
use Rattle.meaning.specs.Files.{all_within, stack_ranges}
use Rattle.meaning.proofs.Tests.{and_reads, le_reads}
use Rattle.meaning.proofs.Lists.{drop_next}
use Rattle.ranges.specs.Ranges.{row_numbers}
use Rattle.table.proofs.Parts.{part, part_at, length_chunks, chunk_at}
use Rattle.stored.specs.Parts.{stack_stored, entries_of}

-- what the test of a stack's row says
pub record StackStored (most trucks loaded : ℕ) (ws : List ℕ) : Type 0 where
  pub range : all_within (stack_ranges trucks) (take 6 ws) ≡ true
  pub count : between 1 64 (get_or ws 7 0) ≡ true
  pub first : eqb (get_or ws 6 0) loaded ≡ true
  pub total : loaded + get_or ws 7 0 ≤ most

pub stack_reads : (most trucks loaded : ℕ) (ws : List ℕ) → stack_stored most trucks loaded ws ≡ true → StackStored most trucks loaded ws
stack_reads most trucks loaded ws e =
    let range = all_within (stack_ranges trucks) (take 6 ws) in
    let count = between 1 64 (get_or ws 7 0) in
    let follows = eqb (get_or ws 6 0) loaded && leb (loaded + get_or ws 7 0) most in
    let h = (and_reads (range && count) follows).0 e in
    let k = (and_reads range count).0 h.0 in
    let f = (and_reads (eqb (get_or ws 6 0) loaded) (leb (loaded + get_or ws 7 0) most)).0 h.1 in
    record { range = k.0; count = k.1; first = f.0; total = (le_reads (loaded + get_or ws 7 0) most).0 f.1 }

-- k rows have passed, whose loads hold `loaded` entries: the rows from there on decide
module _ (most trucks n : ℕ) (ws : List ℕ) where
  abbrev pub rows : List (List ℕ)
  rows = chunks 8 n ws

  pub record Left (loaded k : ℕ) : Type 0 where
    pub upto : k ≤ n
    pub within : loaded ≤ most
    pub decides : entries_of most trucks (row_numbers k ws) loaded (drop k rows) ≡ entries_of most trucks [] 0 rows

  pub left_all : Left 0 0
  unfolding row_numbers
  left_all = record { upto = omega arith; within = omega arith; decides = refl }

  module _ {loaded k : ℕ} (h : Left loaded k) where
    -- no row is left
    pub left_none : n ≤ k → some loaded ≡ entries_of most trucks [] 0 rows
    unfolding entries_of
    left_none m =
        let none_left : length rows ≤ k = omega (arith, length_chunks 8 n ws) in
        sym (ap (entries_of most trucks (row_numbers k ws) loaded) (drop_of_length-le rows none_left)) ∙ h.decides

    -- the next row, which is lent from its first word on up to the next row's
    module _ {fits : Bool} (m : k < n) (lent : fits ≡ stack_stored most trucks loaded (part (8 * k) (8 * k + 8 - 8 * k) ws)) where
      told : fits ≡ stack_stored most trucks loaded (part (8 * k) 8 ws)
      told = let e : 8 * k + 8 - 8 * k ≡ 8 = omega arith in rw e at lent

      row_first : get_or (part (8 * k) 8 ws) 0 0 ≡ get_or ws (8 * k) 0
      row_first = let e : 8 * k + 0 ≡ 8 * k = omega arith in part_at (8 * k) 8 0 ws 0 (omega arith) ∙ ap (λ (j : ℕ). get_or ws j 0) e

      row_here : drop k rows ≡ part (8 * k) 8 ws ∷ drop (k + 1) rows
      row_here =
          let e : 0 + 8 * k ≡ 8 * k = omega arith in
          drop_next rows k [] (omega (arith, length_chunks 8 n ws))
          ∙ ap (λ (r : List ℕ). r ∷ drop (k + 1) rows) (chunk_at 8 n k 0 ws m ∙ ap (λ (j : ℕ). part j 8 ws) e)

      -- what the tests of the row and its two numbers make of it
      abbrev step : Bool → Bool → ℕ → ℕ → Option ℕ
      step a b number count = cond (a && not b) (entries_of most trucks (number ∷ row_numbers k ws) (loaded + count) (drop (k + 1) rows)) none

      here_decides : step fits (listed (get_or ws (8 * k) 0) (row_numbers k ws)) (get_or ws (8 * k) 0) (get_or ws (8 * k + 7) 0) ≡ entries_of most trucks [] 0 rows
      unfolding entries_of
      here_decides =
          let one = part (8 * k) 8 ws in
          let earlier = row_numbers k ws in
          let number = get_or ws (8 * k) 0 in
          sym (ap (entries_of most trucks earlier loaded) row_here
          ∙ ap (λ (a : Bool). step a (listed (get_or one 0 0) earlier) (get_or one 0 0) (get_or one 7 0)) (sym told)
          ∙ ap (λ (j : ℕ). step fits (listed j earlier) j (get_or one 7 0)) row_first
          ∙ ap (step fits (listed number earlier) number) (part_at (8 * k) 8 7 ws 0 (omega arith)))
          ∙ h.decides

      -- it is no stack's, so nothing is answered
      pub row_unfit : fits ≡ false → none ≡ entries_of most trucks [] 0 rows
      row_unfit e =
          let number = get_or ws (8 * k) 0 in
          ap (λ (a : Bool). step a (listed number (row_numbers k ws)) number (get_or ws (8 * k + 7) 0)) (sym e) ∙ here_decides

      -- it passes, so it counts; or its number is one of those before, and nothing is answered
      module _ {repeated : Bool} (asked : repeated ≡ listed (get_or ws (8 * k) 0) (row_numbers k ws)) where
        asked_decides : step fits repeated (get_or ws (8 * k) 0) (get_or ws (8 * k + 7) 0) ≡ entries_of most trucks [] 0 rows
        asked_decides = rw asked here_decides

        pub row_counts : fits ≡ true → repeated ≡ false → Left (loaded + get_or ws (8 * k + 7) 0) (k + 1)
        unfolding row_numbers
        row_counts e f =
            let s = stack_reads most trucks loaded (part (8 * k) 8 ws) (sym told ∙ e) in
            let passed = ap₂ (λ (a b : Bool). step a b (get_or ws (8 * k) 0) (get_or ws (8 * k + 7) 0)) (sym e) (sym f) ∙ asked_decides in
            record {
              upto = omega arith;
              within = omega (arith, s.total, part_at (8 * k) 8 7 ws 0 (omega arith));
              decides = let next : row_numbers (k + 1) ws ≡ get_or ws (8 * k) 0 ∷ row_numbers k ws = rw add-one refl in rw next passed;
            }

        pub row_repeated : repeated ≡ true → none ≡ entries_of most trucks [] 0 rows
        row_repeated f =
            let number = get_or ws (8 * k) 0 in
            let count = get_or ws (8 * k + 7) 0 in
            sym (ap (λ (b : Bool). step fits b number count) f ∙ ap (λ (a : Bool). cond a (step true false number count) none) (and-false fits)) ∙ asked_decides

-- what the steps of a loop over the rows cite
pub ruleset rows_in_turn = (left_all, left_none, row_counts, row_repeated, row_unfit)
