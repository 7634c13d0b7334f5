-- The text that is left grows shorter. What was printed is the text so far, filled with the numbers so far.
use Rattle.std.proofs.Common.{length}
use denote.Text.{Utf8}
use denote.Shadow.{shadow}
use Rattle.std.specs.Io.KnownBytes.{Keeps, append_known}
use Rattle.sentence.specs.Filled.{filled}
use Rattle.sentence.proofs.print_filled.Given as goal

abbrev pub invariant-loop-before : goal.invariant-loop-before
invariant-loop-before g l = record {
  text : shadow (Utf8 l.rest);
  printed : Keeps (append_known (g.W.Write.contents l.initial.out) (filled l.text l.fn.numbers))
      (append_known (g.W.Write.contents l.out) (filled l.rest l.left.rest.now));
}

abbrev pub decreases-loop-before : goal.decreases-loop-before
decreases-loop-before g l = length l.rest
