-- `printing::digit_count`: powers of ten up to the first above the number.
use Prim.Native.Nat.{◌+◌, ◌*◌}
use native.Mathlib.Omega.{arith}
use Rattle.printing.proofs.Digits.{Counting, counting_start, counting_next, counting_end}
use Rattle.printing.proofs.digit_count.Goals as goal

pub loop-power-init : goal.loop-power-init
loop-power-init c = counting_start

pub loop-power-smaller : goal.loop-power-smaller
loop-power-smaller c =
    let next : Counting c.args.n (c.loop-power.count + 1) (c.loop-power.power * 10) =
    counting_next c.loop-power.invariant (omega arith) (omega arith) in
    let more = next in omega (arith, more.counted, more.few)

pub loop-power-preserved : goal.loop-power-preserved
loop-power-preserved c =
    let next : Counting c.args.n (c.loop-power.count + 1) (c.loop-power.power * 10) =
    counting_next c.loop-power.invariant (omega arith) (omega arith) in
    next

pub returns : goal.returns
returns c = counting_end c.loop-power.invariant (omega arith)
