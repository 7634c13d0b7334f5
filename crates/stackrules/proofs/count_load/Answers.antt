-- `stackrules::count_load`: entry by entry one is added to the count of its item.
use Prim.Native.Nat.{◌-◌}
use native.Mathlib.Omega.{arith}
use lib.ListN.{get_or}
use Rattle.stackrules.proofs.Tally.{count_few, counting_more, counting_all}
use Rattle.stackrules.proofs.count_load.Goals as goal

pub overflow_add-times : goal.overflow_add-times
overflow_add-times c =
    let at = get_or c.args.items.now c.loop-n.n-index 0 - 1 in
    record { fits = omega (arith, count_few c.requires c.loop-n.invariant c.loop-n-test.true at (omega arith)) }

pub loop-n-preserved : goal.loop-n-preserved
loop-n-preserved c = counting_more c.requires c.loop-n.invariant c.loop-n-test.true _ (omega arith)

pub returns : goal.returns
returns c = counting_all c.loop-n.invariant (omega arith)
