-- The line's numbers are stored, or it is wrong in form.
use mathlib.Core.Path.{refl, sym, ◌∙◌}
use Rattle.lines.proofs.Storing.{there, not_there, stored_refused, next_within, line_taken, line_wrong}
use Rattle.lines.proofs.stored_line.Goals as goal

pub returns-in_err-parsed : goal.returns-in_err-parsed
returns-in_err-parsed c =
    let none_left = not_there c.parse_line.result _ (sym c.ok_or.ensures.value ∙ c.in_err-parsed.was) in
    stored_refused _ c.from_residual-in_err-parsed.ensures.1 none_left.1
    (line_wrong c.args.key.now c.args.out.now c.args.least c.args.p _ c.in_ok-here.was c.parse_line.result
    c.parse_line.ensures.answer none_left.0)

pub invariant_of-next : goal.invariant_of-next
invariant_of-next c =
    record {
      within = next_within c.args.key.now c.args.out.now c.args.least c.args.p _ c.in_ok-here.was c.parse_line.result
          c.parse_line.ensures.answer c.in_ok-parsed.parsed (there c.parse_line.result _ (sym c.ok_or.ensures.value ∙ c.in_ok-parsed.was));
    }

pub returns : goal.returns
returns c =
    line_taken c.args.key.now c.args.out.now c.args.least c.args.p _ c.in_ok-here.was c.parse_line.result
    c.parse_line.ensures.answer c.in_ok-parsed.parsed (there c.parse_line.result _ (sym c.ok_or.ensures.value ∙ c.in_ok-parsed.was)) _ refl refl refl _ c.parse_line.ensures.words
