-- `ListedStack::stack_place`: each arm has the places of its kind of rule.
use Rattle.stackrules.specs.StackRules.{with_item}
use Rattle.stackrules.proofs.Stacks.{item_is}
use Rattle.stackrules.proofs.listed_stack.ListedStack.stack_place.Goals as goal

pub returns-in-EachItem : goal.returns-in-EachItem
returns-in-EachItem c = rw c.in-EachItem.is (item_is c.row-row.ensures _ _ c.keeps.ensures c.place_if.ensures)

pub returns-in-Own : goal.returns-in-Own
unfolding with_item
returns-in-Own c = rw c.in-Own.is c.own_place.ensures
