-- `judging::survey_plan`: below the rank of the first broken rule on single stacks every rule was asked.
use Rattle.judging.proofs.Verdicts.{surveyed}
use Rattle.judging.proofs.survey_plan.Goals as goal

pub returns-clause-told : goal.returns-clause-told
returns-clause-told c =
    rw c.told_rank.ensures
    (surveyed c.first_on_stacks-first.ensures (rw c.rank_of-upto.ensures at c.kinds_below.ensures) c.ask_trucks.ensures.told.0
    (rw c.rank_of-upto.ensures at c.first_rank.ensures) c.ask_trucks.ensures.told.1)
