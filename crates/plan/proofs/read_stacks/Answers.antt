-- Each stack is put behind those before; the first line that is refused ends the reading.
use mathlib.Core.Path.{ap, ◌∙◌}
use Prim.Native.Nat.{ℕ}
use native.Mathlib.Omega.{arith}
use lib.ListN.{replicate}
use Rattle.lines.proofs.Follow.{handed_on}
use Rattle.plan.proofs.StackLines.{so_far_first, so_far_next, so_far_refused, so_far_done}
use Rattle.plan.proofs.read_stacks.Goals as goal

pub loop-k-init : goal.loop-k-init
loop-k-init c =
    so_far_first c.args.layout.limits c.args.counts c.args.count c.args.here c.clear.new.words
    (c.clear.ensures ∙ ap (λ (n : ℕ). replicate n 0) c.requires.1)

pub returns-in_err-loaded : goal.returns-in_err-loaded
returns-in_err-loaded c = handed_on c.from_residual.ensures.1 (so_far_refused c.loop-k.invariant (omega arith) (rw c.in_err-loaded.was at c.read_stack.ensures))

pub loop-k-preserved : goal.loop-k-preserved
loop-k-preserved c = so_far_next c.loop-k.invariant (omega arith) (omega arith) (rw c.in_ok-loaded.was at c.read_stack.ensures)

pub returns : goal.returns
returns c = so_far_done c.loop-k.invariant (omega arith)
