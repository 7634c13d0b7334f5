-- A place that is within its file is so in one way only.
use mathlib.Core.Path.{ap}
use Rattle.lines.specs.declared.cursor.Cursor.{Cursor}
use Rattle.lines.specs.Within.{Within, within_prop}
use Rattle.lines.proofs.cursor.Cursor.start.Goals as goal

pub returns : goal.returns
returns c =
    let file = c.args.file in
    let at_first : Within file.now 0 0 → Cursor = λ w. record { file = file; at = 0; line = 0; within = w } in
    ap at_first (within_prop file.now 0 0 _ _)
