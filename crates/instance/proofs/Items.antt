-- An item's line, whose ranges depend on its own entries: they refuse the largest word.
use mathlib.Core.Path.{◌≡◌}
use mathlib.Core.Logic.{⊎_elim}
use mathlib.Core.Bool.{true}
use mathlib.Core.List.{List}
use Prim.Native.Nat.{ℕ, ◌≤◌, ◌<◌}
use native.Mathlib.Omega.{arith}
use borrow.Author.Tests.{ltb-true, ltb-false}
use lib.Dec.{ltb}
use lib.ListN.{length, get_or, get_or-eq_default}
use Rattle.meaning.specs.Files.{◌to◌, all_within, item_ranges, item_line}
use Rattle.meaning.proofs.Tests.{decide}
use Rattle.meaning.proofs.Fields.{field_within, ranges_below}
use Rattle.lines.specs.Progress.{RefusesLargest}

-- ---- the largest word
-- an entry is at most the end of its range, also one that a short line lacks
item_most_lem : (ns : List ℕ) (k : ℕ) → k < 16 → all_within (item_ranges ns) ns ≡ true → get_or ns k 0 ≤ (get_or (item_ranges ns) k (0 to 0)).high
item_most_lem ns k h e =
    ⊎_elim
    (λ t. (field_within (item_ranges ns) ns k e h (ltb-true k (length ns) t)).1)
    (λ t. omega (arith, get_or-eq_default ns 0 (ltb-false k (length ns) t)))
    (decide (ltb k (length ns)))

-- the ends that depend on length and height are low, since those two are
pub item_refuses_largest : RefusesLargest item_line
item_refuses_largest ns l e =
    let long : get_or ns 0 0 ≤ 20000 = item_most_lem ns 0 (omega arith) e in
    let high : get_or ns 2 0 ≤ 20000 = item_most_lem ns 2 (omega arith) e in
    ranges_below _ (item_ranges ns) ns (omega arith) l e
