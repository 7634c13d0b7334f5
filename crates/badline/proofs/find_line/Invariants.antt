-- The line that is looked for is as many lines on from `start` as are still to be passed.
use Prim.Native.Nat.{◌+◌, ◌-◌}
use Rattle.badline.proofs.Spans.{Walk}
use Rattle.badline.proofs.find_line.Given as goal

abbrev pub invariant-loop-passed : goal.invariant-loop-passed
invariant-loop-passed l = Walk l.file l.line (l.line + 1 - l._passed) l.start
