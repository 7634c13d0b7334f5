-- The line fills the 20 words, so that the test on the words is the form's.
use mathlib.Core.Path.{refl, sym}
use native.Mathlib.Omega.{arith}
use Rattle.meaning.specs.Files.{truck_ranges, truck_line}
use Rattle.meaning.proofs.Fields.{ranges_below}
use Rattle.lines.specs.Progress.{RefusesLargest}
use Rattle.lines.proofs.Judging.{full_read}
use Rattle.trucks.proofs.read_truck_fields.Goals as goal

truck-refuses-largest : RefusesLargest truck_line
truck-refuses-largest ns l e = ranges_below _ truck_ranges ns (omega arith) l e

pub returns : goal.returns
returns c =
    rw c.judged.ensures
    (full_read c.stored_line-stored.ensures (omega (arith, c.stored_line-stored.auto.out)) truck_line
    (c.stored_line-stored.ensures.says truck_line refl refl (sym c.requires) truck-refuses-largest) c.truck_in_range.result c.truck_in_range.ensures)
