-- The announced number of stacks, the stacks, and the end of the file.
use mathlib.Core.Path.{refl, sym, ◌∙◌}
use Rattle.lines.proofs.Number.{number_read, number_refused}
use Rattle.plan.proofs.PlanLines.{plan_refused, announced_refused, plan_ended, plan_read}
use Rattle.plan.proofs.read_plan.Goals as goal

pub returns-in_err-stacks : goal.returns-in_err-stacks
returns-in_err-stacks c =
    let says = rw c.start.ensures at (c.head_line.ensures.says "stacks=" refl) in
    let follows = rw c.start.ensures at c.head_line.ensures.within.0 in
    plan_refused c.args.layout.limits c.args.counts _ c.from_residual.ensures.1
    (announced_refused c.args.layout.limits c.args.counts (number_refused c.in_err-stacks.was says follows))

pub returns-in_err-next : goal.returns-in_err-next
returns-in_err-next c =
    let says = rw c.start.ensures at (c.head_line.ensures.says "stacks=" refl) in
    let follows = rw c.start.ensures at c.head_line.ensures.within.0 in
    plan_refused c.args.layout.limits c.args.counts _ c.from_residual-in_err-next.ensures.1
    (plan_ended c.args.layout.limits c.args.counts (number_read c.in_ok-stacks.was says follows) c.read_stacks-read.ensures (sym c.at_end.ensures ∙ c.in_err-next.was))

pub returns : goal.returns
returns c =
    let says = rw c.start.ensures at (c.head_line.ensures.says "stacks=" refl) in
    let follows = rw c.start.ensures at c.head_line.ensures.within.0 in
    plan_read c.args.layout.limits c.args.counts (number_read c.in_ok-stacks.was says follows) c.read_stacks-read.ensures (sym c.at_end.ensures ∙ c.in_ok-next.was)
