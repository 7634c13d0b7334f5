-- `judging::judge_loading`: the first rule that the survey tells to be broken refuses, by its kind.
use mathlib.Core.Path.{refl, sym, ◌∙◌}
use Rattle.rules.proofs.Ranks.{all_kept_lem}
use Rattle.judging.proofs.Verdicts.{stack_refused, pair_refused, truck_refused}
use Rattle.judging.proofs.judge_loading.Goals as goal

pub returns-in_default : goal.returns-in_default
returns-in_default c = c.accept.ensures ∙ all_kept_lem _ (rw c.in_default.is at c.survey_plan-told.ensures.told.kept)

pub rule_at-rule-requires : goal.rule_at-rule-requires
rule_at-rule-requires c = (c.survey_plan-told.ensures.told.broken _ c.in-Some.is).inside

pub returns-in-OfStacks : goal.returns-in-OfStacks
returns-in-OfStacks c =
    stack_refused c.survey_plan-told.ensures.told c.in-Some.is c.rule_at-rule.ensures c.in-OfStacks.is c.stack_found.ensures c.refuse_by.ensures _

pub returns-in-OfPairs : goal.returns-in-OfPairs
returns-in-OfPairs c =
    pair_refused c.survey_plan-told.ensures.told c.in-Some.is (sym c.in-OfPairs.is ∙ c.rule_at-rule.ensures) refl c.lowest_pair.ensures
    c.refuse_by-in-OfPairs.ensures _

pub returns-in-OfTrucks : goal.returns-in-OfTrucks
returns-in-OfTrucks c =
    truck_refused c.survey_plan-told.ensures.told c.in-Some.is (sym c.in-OfTrucks.is ∙ c.rule_at-rule.ensures) refl c.truck_found.ensures
    c.refuse_by-in-OfTrucks.ensures _
