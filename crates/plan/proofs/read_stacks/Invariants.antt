-- The loop's state says what is read so far, and that what is left makes up the whole answer.
use Rattle.std.specs.Prelude.{Ok}
use Rattle.plan.proofs.StackLines.{SoFar}
use Rattle.plan.proofs.read_stacks.Given as goal

abbrev pub invariant-loop-k : goal.invariant-loop-k
invariant-loop-k l = SoFar l.layout.limits l.counts l.count (Ok l.initial.loaded.next) l.part l.k l.loaded
