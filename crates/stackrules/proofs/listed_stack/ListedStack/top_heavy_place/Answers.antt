-- `ListedStack::top_heavy_place`: the test compares the weight and the limit of rule 19.
use Rattle.stackrules.proofs.Stacks.{top_heavy_is}
use Rattle.stackrules.proofs.listed_stack.ListedStack.top_heavy_place.Goals as goal

pub returns : goal.returns
returns c = top_heavy_is c.row-row.ensures c.load.ensures.0 c.sum-above.ensures.0 c.truck_field.ensures.0 c.place_if.ensures
