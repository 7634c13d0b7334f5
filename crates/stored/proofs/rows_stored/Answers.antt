-- Row after row: those that are left decide, whatever the test tells of a row's words.
use mathlib.Core.Path.{◌≡◌, refl, ap, ◌∙◌}
use lib.ListN.{length}
use Rattle.std.proofs.lemmas.Fn.{says_at}
use Rattle.std.proofs.lemmas.List.{take_rest}
use Rattle.stored.specs.Parts.{zeros}
use Rattle.stored.proofs.Scan.{and_failed, and_passed, rows_fit, row_passed, row_failed, rows_end, rows_there}
use Rattle.stored.proofs.rows_stored.Goals as goal

pub returns-then-not-test : goal.returns-then-not-test
returns-then-not-test g c passes tells =
    let steps = c.in-Some.ensures.steps in
    let wide : length c.in-Some.row.now ≡ c.args.width = steps.0.1.1 ∙ c.loop-row.invariant.0 in
    let told = tells _ _ wide (says_at g.F.Fn c.test.ensures refl) in
    and_failed _ (row_failed c.args.width _ _ _ steps.1 steps.0.1.0 wide passes told (c.loop-row.invariant.2 passes tells) c.if-not-test.true)

pub loop-row-preserved : goal.loop-row-preserved
loop-row-preserved g c =
    let steps = c.in-Some.ensures.steps in
    let wide : length c.in-Some.row.now ≡ c.args.width = steps.0.1.1 ∙ c.loop-row.invariant.0 in (
      steps.0.0 ∙ c.loop-row.invariant.0,
      rows_fit c.args.width _ _ _ steps.1 steps.0.1.0 wide c.loop-row.invariant.1,
      λ passes tells.
          let told = tells _ _ wide (says_at g.F.Fn c.test.ensures refl) in
          row_passed c.args.width _ _ _ steps.1 steps.0.1.0 wide passes told (c.loop-row.invariant.2 passes tells) c.if-not-test.false,
    )

pub returns : goal.returns
returns g c passes tells =
    let steps = c.in-None.ensures.steps in
    let none_left = rows_there c.args.width _ _ c.loop-row.invariant.0 c.loop-row.invariant.1 (λ some. (steps some).1.0) in
    and_passed (rows_end passes c.args.width _ _ (c.loop-row.invariant.2 passes tells) none_left) (c.are_zero.ensures ∙ ap zeros (take_rest c.args.words.now _))
