-- Head, items and trucks each fill their whole part, and the three parts are all the words; the first line that is refused ends the
-- reading.
use Prim.Native.Nat.{◌-◌}
use native.Mathlib.Omega.{arith}
use lib.ListN.{length, length-append}
use borrow.Rule.Slice.PartMut.{put_mid}
use Rattle.lines.proofs.Follow.{handed_on}
use Rattle.instance.proofs.Parts.{three_parts}
use Rattle.instance.proofs.WholeFile.{head_refuses, items_refuse, instance_read}
use Rattle.instance.proofs.read_instance.Goals as goal

pub returns-in_err-head : goal.returns-in_err-head
returns-in_err-head c = handed_on c.from_residual.ensures.1 (head_refuses (rw c.in_err-head.was at (rw c.start-start.ensures at c.read_head.ensures)))

pub returns-in_err-items : goal.returns-in_err-items
returns-in_err-items c =
    handed_on c.from_residual-in_err-items.ensures.1 (items_refuse (rw c.in_ok-head.was at (rw c.start-start.ensures at c.read_head.ensures)) _ (rw c.in_err-items.was at c.read_items.ensures))

pub returns : goal.returns
returns c =
    -- what came back of each part
    let two = put_mid 16 (c.trucks_at-trucks_from.result - 16) (put_mid 0 16 c.args.part.now c.read_head.new.part) c.read_items.new.part in
    -- how long the parts are
    rw c.at_end.ensures
    (instance_read (rw c.in_ok-head.was at (rw c.start-start.ensures at c.read_head.ensures)) (rw c.in_ok-items.was at c.read_items.ensures) c.read_trucks-trucks.ensures (omega arith) (omega arith) _
    (three_parts c.args.part.now c.read_head.new.part c.read_items.new.part c.read_trucks-trucks.new.part 16 (c.trucks_at-trucks_from.result - 16) (length two - c.trucks_at-trucks_from.result) c.trucks_at-trucks_from.result (omega arith) (simp length-append (omega arith)) (omega arith)))
