-- The word at the field's place of the item's row.
use mathlib.Core.Path.{sym}
use Prim.Native.Nat.{◌-◌, ◌*◌}
use borrow.Author.Rules.{rules}
use Rattle.table.proofs.Parts.{part_at}
use Rattle.ranges.proofs.item_word.Goals as goal

pub returns : goal.returns
returns c =
    let a = c.args in
    sym (part_at (16 * (a.n - 1)) 16 a.field a.items.now 0 (search rules))
