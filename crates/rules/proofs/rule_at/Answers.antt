-- `rules::rule_at`: within the list it does not matter what stands in behind it.
use Rattle.std.proofs.lemmas.List.{get_or_default}
use Rattle.rules.specs.LoadingRules.{ordered, rule_at}
use Rattle.rules.proofs.rule_at.Goals as goal

pub returns : goal.returns
unfolding rule_at
returns c = get_or_default ordered _ _ _ c.requires
