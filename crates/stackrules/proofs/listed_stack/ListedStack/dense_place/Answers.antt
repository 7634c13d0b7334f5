-- `ListedStack::dense_place`: the test compares the products of rule 21.
use Rattle.stackrules.proofs.Stacks.{dense_is}
use Rattle.stackrules.proofs.listed_stack.ListedStack.dense_place.Goals as goal

pub returns : goal.returns
returns c =
    dense_is c.row-row.ensures c.truck_field-limit.ensures.0 c.bottom_field-length.ensures.0 c.bottom_field-width.ensures.0
    c.density_kept-kept.ensures c.place_if.ensures
