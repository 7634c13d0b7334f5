-- `ListedStack::breach_with_item`: the rules are asked one after another.
use Rattle.stackrules.proofs.Items.{found_on_stack}
use Rattle.stackrules.proofs.First.{kept_more, kept_broken}
use Rattle.stackrules.proofs.listed_stack.ListedStack.breach_with_item.Goals as goal

pub returns-in-Some : goal.returns-in-Some
returns-in-Some c =
    let on = found_on_stack _ _ _ _ c.rank_place.ensures c.in-Some.is in
    kept_broken c.loop-rank.invariant c.loop-rank-test.true c.rank_place.ensures on c.in-Some.is

pub loop-rank-preserved : goal.loop-rank-preserved
loop-rank-preserved c = kept_more c.loop-rank.invariant c.loop-rank-test.true c.rank_place.ensures c.in_default.is
