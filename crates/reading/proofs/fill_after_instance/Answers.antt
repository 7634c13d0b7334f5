-- A code clash is the answer where there is one, and else what the plan gives.
use mathlib.Core.Path.{◌≡◌}
use Rattle.meaning.specs.Places.{lowest}
use Rattle.meaning.specs.Table.{instance_in}
use Rattle.meaning.specs.Check.{code_clashes}
use Rattle.ranges.specs.Clashes.{clash_place}
use Rattle.reading.proofs.Filling.{clash_in, clash_refused, no_clash_lem}
use Rattle.reading.proofs.fill_after_instance.Goals as goal

pub returns-in-Some : goal.returns-in-Some
returns-in-Some c =
    let clash :
    clash_place c.lowest_clash.result ≡ lowest (code_clashes (instance_in c.args.layout.limits c.args.words.now)) =
    clash_in c.args.layout.limits c.args.words.now c.lowest_clash.result c.item_count-items.result c.item_count-items.ensures.0 c.lowest_clash.ensures in
    clash_refused _ _ _ _ _ _ _ _ (rw c.in-Some.is at clash) c.refused.ensures

pub returns-in-None : goal.returns-in-None
returns-in-None c =
    let clash :
    clash_place c.lowest_clash.result ≡ lowest (code_clashes (instance_in c.args.layout.limits c.args.words.now)) =
    clash_in c.args.layout.limits c.args.words.now c.lowest_clash.result c.item_count-items.result c.item_count-items.ensures.0 c.lowest_clash.ensures in
    no_clash_lem _ _ _ _ _ _ (rw c.in-None.is at clash) c.fill_plan.ensures
