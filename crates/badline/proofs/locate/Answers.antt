-- The number chooses the file; the line's place there is what the meaning hands back.
use mathlib.Core.Path.{◌∙◌}
use mathlib.Core.Logic.{inl, inr}
use mathlib.Core.Bool.{true, false}
use Rattle.badline.proofs.Parts.{Other, of_instance, of_plan, of_neither, placed}
use native.Mathlib.Omega.{arith}
use Rattle.badline.proofs.locate.Goals as goal
use Rattle.badline.proofs.locate.Goals.{in_default-via-then-number-lt4, in_default-via-else-number-lt4+else-number-lt6+then-number-lt7, in_default-via-else-number-lt4+else-number-lt6+else-number-lt7+else-number-lt9}

pub returns-in-4 : goal.returns-in-4
returns-in-4 c =
    c.part_found.ensures ∙ placed c.args.instance.now c.find_line.result false _ c.find_line.ensures
    ∙ of_instance c.args.instance.now c.args.plan.now c.args.number c.args.line (omega arith) (omega arith)

pub returns-in-7 : goal.returns-in-7
returns-in-7 c =
    c.part_found-in-7.ensures ∙ placed c.args.instance.now c.find_line-in-7.result true _ c.find_line-in-7.ensures
    ∙ of_plan c.args.instance.now c.args.plan.now c.args.number c.args.line (omega arith) (omega arith)

pub returns-in_default : goal.returns-in_default
returns-in_default c =
    let other : Other c.args.number =
    elim c.in_default.branch [
      | in_default-via-then-number-lt4 w ↦ inl (omega arith)
      | in_default-via-else-number-lt4+else-number-lt6+then-number-lt7 w ↦ inr (inl (omega arith, omega arith))
      | in_default-via-else-number-lt4+else-number-lt6+else-number-lt7+else-number-lt9 w ↦ inr (inr (omega arith))
    ] in
    c.part_found-in_default.ensures ∙ of_neither c.args.instance.now c.args.plan.now c.args.number c.args.line other
