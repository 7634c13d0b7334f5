-- The numbers of the stacks in the first rows: the words behind them do not matter.
use mathlib.Core.Path.{◌≡◌, refl, sym, ap, ◌∙◌}
use mathlib.Core.List.{List}
use Prim.Native.Nat.{ℕ, zero, suc, ◌*◌, ◌≤◌, ◌<◌}
use native.Mathlib.Omega.{arith}
use lib.ListN.{length, take}
use lib.Seq.{get_or-take}
use Rattle.ranges.specs.Ranges.{row_numbers}
use Rattle.plan.specs.Words.{spliced}
use Rattle.plan.proofs.Splices.{spliced_before}

first_rows : (k n : ℕ) (part : List ℕ) → 8 * k ≤ n → row_numbers k (take n part) ≡ row_numbers k part
unfolding row_numbers
first_rows zero n part h = refl
first_rows (suc k) n part h =
    let b : 8 * k < n = omega arith in
    rw (get_or-take n part (8 * k) 0 b, first_rows k n part (omega arith)) refl

pub rows_kept : (k at : ℕ) (xs ys : List ℕ) → 8 * k ≤ at → at ≤ length xs → row_numbers k (spliced at ys xs) ≡ row_numbers k xs
rows_kept k at xs ys h l = sym (first_rows k at (spliced at ys xs) h) ∙ ap (row_numbers k) (spliced_before at xs ys l) ∙ first_rows k at xs h
