-- Counted from `at` on, the byte is found at the same index as counted from `from` on.
use native.Mathlib.Omega.{arith}
use Rattle.text.proofs.Bytes.{count_at, count_end}
use Rattle.text.proofs.first_byte.Goals as goal

pub returns-then-bytes-at : goal.returns-then-bytes-at
returns-then-bytes-at c =
    let a = c.args in
    omega (arith, (count_at a.byte a.bytes.now c.loop-at.at (omega arith)).0 c.if-bytes-at.true, c.loop-at.invariant.0)

pub loop-at-preserved : goal.loop-at-preserved
loop-at-preserved c =
    let a = c.args in
    (omega (arith, (count_at a.byte a.bytes.now c.loop-at.at (omega arith)).1 c.if-bytes-at.false, c.loop-at.invariant.0), omega arith)

pub returns : goal.returns
returns c =
    let a = c.args in
    omega (arith, count_end a.byte a.bytes.now c.loop-at.at (omega arith), c.loop-at.invariant, c.max.ensures)
