-- Each row's words are put behind those before; the first line that is refused ends the reading.
use Prim.Native.Nat.{◌+◌, ◌-◌, ◌*◌}
use native.Mathlib.Omega.{arith}
use lib.ListN.{length}
use Rattle.lines.proofs.Follow.{handed_on}
use Rattle.trucks.proofs.Repeat.{run_room, run_lent, first, next, repeat_refused, done}
use Rattle.trucks.proofs.read_rows.Goals as goal

pub loop-k-init : goal.loop-k-init
loop-k-init g c reader reads = first _ _ _ c.clear.ensures

pub returns-in_err-next : goal.returns-in_err-next
returns-in_err-next g c reader reads =
    let room = run_room c.args.width c.loop-k.k c.args.count (length c.args.part.now) c.loop-k-test.true c.requires.room in
    let wide = run_lent c.args.width c.loop-k.k c.loop-k.part (omega (arith, room)) in
    handed_on c.from_residual.ensures.1 (repeat_refused (c.loop-k.invariant reader reads) (omega arith) (rw c.in_err-next.was at (reads _ _ _ _ wide c.read_row.ensures)))

pub loop-k-preserved : goal.loop-k-preserved
loop-k-preserved g c reader reads =
    let at = c.args.width * c.loop-k.k in
    let room = run_room c.args.width c.loop-k.k c.args.count (length c.args.part.now) c.loop-k-test.true c.requires.room in
    let wide = run_lent c.args.width c.loop-k.k c.loop-k.part (omega (arith, room)) in
    next (c.loop-k.invariant reader reads) (rw c.in_ok-next.was at (reads _ _ _ _ wide c.read_row.ensures)) (omega arith) (at + c.args.width - at) (omega arith) room
    (omega (arith, c.read_row.auto.arg3, wide))

pub returns : goal.returns
returns g c reader reads = done (c.loop-k.invariant reader reads) (omega arith)
