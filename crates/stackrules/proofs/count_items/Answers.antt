-- `stackrules::count_items`: from the last stack to the first, each adds its items to the counts of the stacks behind it.
use mathlib.Core.Path.{◌≡◌, refl}
use Prim.Native.Nat.{◌+◌, ◌-◌}
use native.Mathlib.Omega.{arith}
use Rattle.table.specs.Held.{stacks_of}
use Rattle.stackrules.proofs.Tally.{tally_none, tally_more, countable}
use Rattle.stackrules.proofs.count_items.Goals as goal

pub loop-s-init : goal.loop-s-init
loop-s-init c =
    let p = stacks_of c.args.table in
    (omega arith, refl, tally_none p c.requires c.clear.ensures c.stack_count-s.ensures.0)

pub count_load-requires : goal.count_load-requires
count_load-requires c = countable c.loop-s.s c.args.table.filled c.load.ensures.1 c.loop-s.invariant.2

pub loop-s-preserved : goal.loop-s-preserved
loop-s-preserved c =
    let p = stacks_of c.args.table in
    let back : c.loop-s.s - 1 + 1 ≡ c.loop-s.s = omega arith in (
      omega arith,
      omega arith,
      tally_more p (omega arith) (rw back c.loop-s.invariant.2) (omega arith) c.load.ensures.0 c.count_load.ensures,
    )
