-- The line fills the 16 words, so that the test on the words is the form's.
use mathlib.Core.Path.{refl, sym}
use native.Mathlib.Omega.{arith}
use Rattle.meaning.specs.Files.{item_line}
use Rattle.lines.proofs.Judging.{full_read}
use Rattle.instance.proofs.Items.{item_refuses_largest}
use Rattle.instance.proofs.read_item.Goals as goal

pub returns : goal.returns
returns c =
    let says = c.stored_line-stored.ensures.says item_line refl refl (sym c.requires) item_refuses_largest in
    rw c.judged.ensures (full_read c.stored_line-stored.ensures (omega arith) item_line says c.item_in_range.result c.item_in_range.ensures)
