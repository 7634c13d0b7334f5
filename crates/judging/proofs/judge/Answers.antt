-- `judging::judge`: rule 9 comes first in the table, and the loading rules follow.
use mathlib.Core.Path.{◌∙◌}
use Rattle.rules.proofs.Ranks.{once_broken, once_kept}
use Rattle.judging.proofs.judge.Goals as goal

pub returns-in-Some : goal.returns-in-Some
returns-in-Some c = c.refuse.ensures ∙ once_broken _ _ _ c.lowest_not_once.ensures c.in-Some.is

pub returns : goal.returns
returns c = c.judge_loading.ensures ∙ once_kept _ _ c.lowest_not_once.ensures c.in_default.is
