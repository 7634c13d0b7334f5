-- No item that was asked clashes, so the clashes are those of the items behind.
use native.Mathlib.Omega.{arith}
use Rattle.ranges.proofs.Clashes.{none_asked, first_within, clash_here, no_clash_here, all_asked}
use Rattle.ranges.proofs.lowest_clash.Goals as goal

pub loop-passed-init : goal.loop-passed-init
loop-passed-init c = none_asked c.args.items.now c.args.count

pub same_length_and_width-requires : goal.same_length_and_width-requires
same_length_and_width-requires c =
    let within = first_within c.loop-passed.invariant c.loop-passed-test.true (c.first_of_code-first.ensures c.args.count (omega arith)) in
    omega (arith, within.0, within.1)

pub returns-then-not-same_length_and_width : goal.returns-then-not-same_length_and_width
returns-then-not-same_length_and_width c =
    clash_here c.loop-passed.invariant c.loop-passed-test.true (c.first_of_code-first.ensures c.args.count (omega arith)) c.same_length_and_width.ensures c.if-not-same_length_and_width.true

pub loop-passed-preserved : goal.loop-passed-preserved
loop-passed-preserved c =
    no_clash_here c.loop-passed.invariant c.loop-passed-test.true (c.first_of_code-first.ensures c.args.count (omega arith)) c.same_length_and_width.ensures c.if-not-same_length_and_width.false

pub returns : goal.returns
returns c = all_asked c.loop-passed.invariant (omega arith)
