-- What the answers of this crate say, in the words of the meaning.
use Rattle.std.specs.Prelude.{Bool, true, false, Option, None, Some, ℕ, ◌+◌}
use Rattle.std.proofs.Math.Option.{Option as Maybe, none, some}
use Rattle.meaning.specs.BadLine.{Span, span, File, in_instance, in_plan, Part}
use Rattle.badline.specs.declared.LineFound.{LineFound}
use Rattle.badline.specs.declared.BadLine.{BadLine}

-- where a line was found
abbrev pub span_of : Option LineFound → Maybe Span
span_of (Some l) = some (span l.start l.end)
span_of None = none

-- the file that the bad line stands in
abbrev pub file_of : Bool → File
file_of true = in_plan
file_of false = in_instance

-- "that part of the file it stands in"
abbrev pub part_of : BadLine → Part
part_of r = record { file = file_of r.plan; span = span r.start r.end }

-- the part of a line that was found, or else the empty one at the instance's end
abbrev pub part_found : Option LineFound → Bool → ℕ → Part
part_found (Some l) plan fallback = record { file = file_of plan; span = span l.start l.end }
part_found None plan fallback = record { file = in_instance; span = span fallback fallback }

-- where a part stands in memory, if its file does: the file's block, and the bytes before the part behind the file's own place
abbrev pub part_pointer : ℕ × ℕ → ℕ × ℕ → Part → ℕ × ℕ
part_pointer instance plan q =
    elim q.file [ in_instance ↦ (instance.0, q.span.start + instance.1) | in_plan ↦ (plan.0, q.span.start + plan.1) ]
