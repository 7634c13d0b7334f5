-- `ListedStack::outside_place`: the tests compare the extents and the limits of rule 22.
use Rattle.stackrules.proofs.Stacks.{outside_is}
use Rattle.stackrules.proofs.listed_stack.ListedStack.outside_place.Goals as goal

pub returns : goal.returns
returns c =
    outside_is c.row-row.ensures c.load.ensures.0 c.size-size.ensures c.truck_field.ensures.0 c.truck_field-2.ensures.0
    c.truck_field-3.ensures.0 c.exceeded_side-side.ensures c.place_if.ensures
