-- The parts still to come give the same answer and the same words as all parts do; each turn takes the first of them.
use Rattle.std.proofs.Common.{◌∙◌, arith}
use Rattle.std.proofs.lemmas.List.{set-get_or}
use Rattle.meaning.specs.Text.{comma_parts}
use Rattle.text.proofs.Values.{all_to_come, none_stored, all_stored, part_within, last_stored, more_stored, counted}
use Rattle.text.proofs.parse_numbers.Goals as goal

pub loop-stored-init : goal.loop-stored-init
loop-stored-init c = all_to_come c.args.least (comma_parts c.args.value.now) c.args.out.now

pub returns-in_err-number : goal.returns-in_err-number
returns-in_err-number c =
    let promised = none_stored c.loop-stored.rest.now c.loop-stored.invariant c.in_err-number.ensures in
    rw set-get_or (record { answer = c.from_residual.ensures ∙ promised.0; words = promised.1 })

pub slice_bounds-split_first-count : goal.slice_bounds-split_first-count
slice_bounds-split_first-count c = part_within c.loop-stored.rest.now c.loop-stored.invariant c.in_ok-number.number c.in_ok-number.ensures (omega arith)

pub slice_bounds-split_first-start : goal.slice_bounds-split_first-start
slice_bounds-split_first-start c = part_within c.loop-stored.rest.now c.loop-stored.invariant c.in_ok-number.number c.in_ok-number.ensures (omega arith)

pub returns-in_default : goal.returns-in_default
returns-in_default c =
    let last = last_stored c.loop-stored.rest.now c.loop-stored.invariant c.in_ok-number.number c.in_ok-number.ensures (omega arith) c.in_default.ensures.cases in
    let promised = counted last in
    record { answer = c.then_some.ensures ∙ promised.0; words = promised.1 }

pub loop-stored-preserved : goal.loop-stored-preserved
loop-stored-preserved c =
    more_stored c.loop-stored.rest.now c.loop-stored.invariant c.in_ok-number.number c.in_ok-number.ensures (omega arith) c.in-Some._comma.now
    c.in-Some.others.now c.in-Some.ensures.cases.0

pub returns : goal.returns
returns c =
    let promised = all_stored c.loop-stored.rest.now c.loop-stored.invariant (omega arith) in
    record { answer = promised.0; words = promised.1 }
