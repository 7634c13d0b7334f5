-- `ListedStack::rank_place`: each arm has the places of its kind of rule.
use mathlib.Core.Path.{sym}
use Rattle.search.proofs.Lowest.{lowest_none}
use Rattle.stackrules.specs.StackRules.{with_item}
use Rattle.stackrules.proofs.listed_stack.ListedStack.rank_place.Goals as goal

pub returns-in-OfPairs : goal.returns-in-OfPairs
unfolding with_item
returns-in-OfPairs c = rw (← c.rule_at-rule.ensures, c.in-OfPairs.is) (sym lowest_none)

pub returns-in-OfTrucks : goal.returns-in-OfTrucks
unfolding with_item
returns-in-OfTrucks c = rw (← c.rule_at-rule.ensures, c.in-OfTrucks.is) (sym lowest_none)
