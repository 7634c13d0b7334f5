-- The walk goes from line to line; each step leaves the line that is looked for where it was.
use mathlib.Core.Path.{◌≡◌}
use Prim.Native.Nat.{◌+◌, ◌-◌}
use native.Mathlib.Omega.{arith}
use Rattle.text.proofs.Bytes.{found_within}
use Rattle.badline.proofs.Spans.{walk_begins, walk_ends, walk_found, walk_on, no_such_line}
use Rattle.badline.proofs.find_line.Goals as goal

pub returns-then-line-eq0 : goal.returns-then-line-eq0
returns-then-line-eq0 c = no_such_line c.args.line c.args.file.now c.if-line-eq0.true

pub loop-passed-init : goal.loop-passed-init
loop-passed-init c = walk_begins c.args.file.now c.args.line _ (omega arith) (omega arith)

pub returns-then-file-start : goal.returns-then-file-start
returns-then-file-start c = walk_ends c.loop-passed.invariant c.if-file-start.true

pub overflow_add-start : goal.overflow_add-start
overflow_add-start c = omega (arith, found_within 10 c.args.file.now c.loop-passed.start _ c.line_end-start.ensures (omega arith))

pub loop-passed-preserved : goal.loop-passed-preserved
loop-passed-preserved c =
    let next : c.args.line + 1 - (c.loop-passed._passed + 1) ≡ c.args.line + 1 - c.loop-passed._passed - 1 = omega arith in
    rw next (walk_on c.loop-passed.invariant c.if-file-start.false _ c.line_end-start.ensures (λ e. omega arith))

pub returns-then-start-file : goal.returns-then-start-file
returns-then-start-file c = walk_found c.loop-passed.invariant c.if-start-file.true _ c.line_end-end.ensures (omega arith)

pub returns-else-start-file : goal.returns-else-start-file
returns-else-start-file c = walk_ends c.loop-passed.invariant c.if-start-file.false
