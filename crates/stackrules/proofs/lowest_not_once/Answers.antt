-- `stackrules::lowest_not_once`: of the items behind `at` the lowest place is kept; the words of the counts say how often each item is loaded.
use Rattle.table.specs.Held.{instance_of, stacks_of}
use Rattle.stackrules.proofs.Tally.{above_none, above_more, above_end}
use Rattle.stackrules.proofs.lowest_not_once.Goals as goal

pub loop-at-preserved : goal.loop-at-preserved
loop-at-preserved c = above_more c.loop-at.invariant c.loop-at-test.true c.place_if.ensures c.lower_of-found.ensures

pub returns : goal.returns
returns c =
    let i = instance_of c.args.table in
    above_end i (stacks_of c.args.table) c.loop-at.invariant c.loop-at-test.false c.item_count-at.ensures.0 c.count_items.ensures

pub loop-at-init : goal.loop-at-init
loop-at-init c = above_none
