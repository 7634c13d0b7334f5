-- A line of one number, judged by its one range.
use mathlib.Core.Path.{refl, ◌∙◌}
use Rattle.ranges.proofs.Ends.{head_below}
use Rattle.lines.proofs.Number.{number_says, told_refused}
use Rattle.lines.proofs.head_line.Goals as goal

pub returns-in_err-next-clause-says : goal.returns-in_err-next-clause-says
returns-in_err-next-clause-says c k b =
    let below = head_below c.args.layout.limits c.args.layout.bounded c.args.place c.requires in
    told_refused _ _ c.from_residual.ensures.1
    ∙ number_says _ below c.stored_line-stored.ensures refl c.stored_line-stored.auto.out _ c.head_number_in_range.ensures _ (rw c.in_err-next.was at c.judged.ensures) k b

pub returns-clause-says : goal.returns-clause-says
returns-clause-says c =
    let below = head_below c.args.layout.limits c.args.layout.bounded c.args.place c.requires in
    number_says _ below c.stored_line-stored.ensures refl c.stored_line-stored.auto.out _ c.head_number_in_range.ensures _ (rw c.in_ok-next.was at c.judged.ensures)
