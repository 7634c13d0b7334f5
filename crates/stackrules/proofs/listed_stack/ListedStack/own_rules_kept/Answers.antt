-- `ListedStack::own_rules_kept`: five searches, and each finds nothing exactly where its rule is kept.
use Rattle.stackrules.proofs.Kept.{nothing_told, own_told}
use Rattle.stackrules.proofs.listed_stack.ListedStack.own_rules_kept.Goals as goal

pub returns : goal.returns
returns c =
    own_told _ _ (nothing_told _ c.docks_place.ensures c.is_none-docks.ensures) (nothing_told _ c.top_heavy_place.ensures c.is_none-top.ensures)
    (nothing_told _ c.too_many_place.ensures c.is_none-count.ensures) (nothing_told _ c.dense_place.ensures c.is_none-density.ensures)
    (nothing_told _ c.outside_place.ensures c.is_none-ground.ensures)
