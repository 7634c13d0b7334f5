-- Row after row: those that are left decide, whatever the test tells of a row's words.
use Rattle.std.specs.Prelude.{◌≡◌, List, ℕ, Bool, ◌*◌, ◌≤◌, length}
use Rattle.std.specs.Fn.{FnReturnsAt}
use Rattle.meaning.specs.Lists.{all, chunks}
use Rattle.stored.specs.Parts.{RowTest}
use Rattle.stored.proofs.rows_stored.Given as goal

abbrev pub invariant-loop-row : goal.invariant-loop-row
invariant-loop-row g l =
    let left = l.row-iterator.n in
    let rest = l.row-iterator.iter.rest.now in
    (l.row-iterator.iter.size ≡ l.width) × (l.width * left ≤ length rest)
    × ((passes : List ℕ → Bool) → RowTest (FnReturnsAt g.F.Fn l.test) l.width passes → all passes (chunks l.width left rest) ≡ all passes (chunks l.width l.count l.words))
