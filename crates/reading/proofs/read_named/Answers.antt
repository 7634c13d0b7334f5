-- The words are cleared after every refusal, and stay as they are filled where there is none.
use mathlib.Core.Path.{◌≡◌, sym, ◌∙◌}
use native.Mathlib.Omega.{arith}
use lib.ListN.{length}
use Rattle.meaning.specs.Limits.{named}
use Rattle.reading.proofs.Outer.{instance_overlong, plan_overlong, words_cleared, words_kept}
use Rattle.reading.proofs.read_named.Goals as goal

pub returns-then-limits-instance : goal.returns-then-limits-instance
returns-then-limits-instance c = instance_overlong _ _ _ _ _ c.if-limits-instance.true c.refused.ensures (rw c.requires at c.clear.ensures)

pub returns-then-limits-plan : goal.returns-then-limits-plan
returns-then-limits-plan c = plan_overlong _ _ _ c.if-limits-instance.false _ _ c.if-limits-plan.true c.refused-then-limits-plan.ensures (rw c.requires at c.clear-then-limits-plan.ensures)

pub returns-then-is_err : goal.returns-then-is_err
returns-then-is_err c =
    let size : length c.fill-r.new.words ≡ named c.args.layout.limits = omega arith in
    words_cleared _ _ _ c.if-limits-instance.false c.if-limits-plan.false _ _ c.fill-r.ensures _ (sym c.is_err.ensures.value ∙ c.if-is_err.true)
    (rw size at c.clear-then-is_err.ensures)

pub returns-else-is_err : goal.returns-else-is_err
returns-else-is_err c = words_kept _ _ _ c.if-limits-instance.false c.if-limits-plan.false _ _ c.fill-r.ensures (sym c.is_err.ensures.value ∙ c.if-is_err.false)
