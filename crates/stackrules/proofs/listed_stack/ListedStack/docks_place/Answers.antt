-- `ListedStack::docks_place`: two plant docks are consecutive exactly when the range of their orders says so.
use Rattle.stackrules.proofs.Stacks.{docks_is}
use Rattle.stackrules.proofs.listed_stack.ListedStack.docks_place.Goals as goal

pub returns : goal.returns
returns c = docks_is c.row-row.ensures c.truck_field-two_docks.ensures.0 c.place_if.ensures
