-- Its two lines one after the other, and what is written of them; the first that is refused ends the reading.
use mathlib.Core.Path.{◌≡◌}
use Prim.Native.Nat.{◌-◌, ◌*◌}
use native.Mathlib.Omega.{arith}
use borrow.Rule.Slice.PartMut.{mid_of}
use lib.ListN.{length, length-take, length-drop}
use Rattle.plan.proofs.StackLines.{row_refused, load_refused, stack_refused, stack_read}
use Rattle.plan.proofs.read_stack.Goals as goal

pub returns-in_err-fields : goal.returns-in_err-fields
returns-in_err-fields c = stack_refused _ c.from_residual.ensures.1 (row_refused _ _ _ _ _ (rw c.in_err-fields.was at c.read_stack_row.ensures))

pub returns-in_err-load : goal.returns-in_err-load
returns-in_err-load c =
    let all : length (mid_of (8 * c.args.layout.limits.stacks) (length c.read_stack_row.new.part - 8 * c.args.layout.limits.stacks) c.read_stack_row.new.part) ≡ c.args.layout.limits.loads =
    simp (length-take, length-drop) (omega (arith, c.read_stack_row.auto.part)) in
    stack_refused _ c.from_residual-in_err-load.ensures.1
    (load_refused _ _ _ _ _ (rw c.in_ok-fields.was at c.read_stack_row.ensures) (rw (c.in_err-load.was, all) at c.read_load.ensures.read).into)

pub returns : goal.returns
returns c =
    stack_read c.args.layout.limits c.args.counts c.args.part.now c.read_stack_row.new.part c.read_load.new.loads c.args.k c.args.loaded _ _
    (omega arith) (omega arith) c.requires.2 c.read_stack_row.auto.part c.read_load.auto.loads (rw c.in_ok-fields.was at c.read_stack_row.ensures)
    (rw c.in_ok-load.was at c.read_load.ensures.read) (rw c.in_ok-load.was at c.read_load.ensures.within)
