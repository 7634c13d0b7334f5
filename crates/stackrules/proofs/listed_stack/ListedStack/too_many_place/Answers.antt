-- `ListedStack::too_many_place`: the test compares the count and the limit of rule 20.
use Rattle.stackrules.proofs.Stacks.{too_many_is}
use Rattle.stackrules.proofs.listed_stack.ListedStack.too_many_place.Goals as goal

pub returns : goal.returns
returns c = too_many_is c.row-row.ensures c.load-items.ensures.0 c.item_field.ensures.0 c.place_if.ensures
