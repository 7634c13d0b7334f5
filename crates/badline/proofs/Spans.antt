-- Lines of a file as a walk from line to line finds them.
use mathlib.Core.Path.{◌≡◌, refl, sym, ◌∙◌}
use mathlib.Core.Option.{none, some}
use mathlib.Core.List.{List, [], ◌∷◌}
use Prim.Native.Nat.{ℕ, zero, suc, ◌+◌, ◌-◌, ◌≤◌, ◌<◌}
use native.Mathlib.Omega.{arith}
use lib.ListN.{length, drop, length-drop, drop_of_length-le}
use lib.Seq.{drop-drop}
use Rattle.meaning.specs.Text.{count_before}
use Rattle.meaning.specs.BadLine.{span, line_span}

-- ---- one step of the walk
first_line : (at : ℕ) (bs : List ℕ) → 0 < length bs → line_span 1 at bs ≡ some (span at (at + count_before 10 bs))
unfolding line_span
first_line at [] h = absurd (omega arith)
first_line at (b ∷ bs) h = refl

later_line : (n at : ℕ) (bs : List ℕ) → 0 < length bs
    → line_span (suc (suc n)) at bs ≡ line_span (suc n) (at + suc (count_before 10 bs)) (drop (suc (count_before 10 bs)) bs)
unfolding line_span
later_line n at [] h = absurd (omega arith)
later_line n at (b ∷ bs) h = refl

no_line : (n at : ℕ) → line_span n at [] ≡ none
unfolding line_span
no_line zero at = refl
no_line (suc n) at = refl

-- ---- the walk: the line that is `left` lines on from `at` is the line that is looked for
pub record Walk (file : List ℕ) (line left at : ℕ) : Type 0 where
  pub some : 1 ≤ left
  pub same : line_span left at (drop at file) ≡ line_span line 0 file

pub walk_begins : (file : List ℕ) (line left : ℕ) → 1 ≤ line → left ≡ line → Walk file line left 0
walk_begins file line left h e = record { some = omega arith; same = rw e refl }

module _ {file : List ℕ} {line left at : ℕ} (w : Walk file line left at) where
  -- nothing is left of the file
  pub walk_ends : length file ≤ at → none ≡ line_span line 0 file
  walk_ends h = sym (no_line left at) ∙ rw (drop_of_length-le file h) at w.same

  module _ (inside : at < length file) (end : ℕ) (ends : end ≡ at + count_before 10 (drop at file)) where
    rest : 0 < length (drop at file)
    rest = omega (arith, length-drop at file)

    pub walk_found : left ≡ 1 → some (span at end) ≡ line_span line 0 file
    walk_found e = rw ends (sym (first_line at (drop at file) rest) ∙ rw e at w.same)

    pub walk_on : (left ≡ 1 → ⊥) → Walk file line (left - 1) (end + 1)
    walk_on more =
        let n : left ≡ suc (suc (left - 2)) = omega (arith, w.some, more) in
        let m : left - 1 ≡ suc (left - 2) = omega (arith, w.some) in
        let past : at + suc (count_before 10 (drop at file)) ≡ end + 1 = omega arith in
        let step = later_line (left - 2) at (drop at file) rest in
        record {
          some = omega (arith, w.some);
          same = rw (m, ← past, ← drop-drop (suc (count_before 10 (drop at file))) at file) (sym step ∙ rw n at w.same);
        }

-- lines are counted from 1
pub no_such_line : (line : ℕ) (file : List ℕ) → line ≡ 0 → none ≡ line_span line 0 file
unfolding line_span
no_such_line line file e = rw e
