-- `printing::Writer::line`: the numbers from place `i` on are still to be written.
use lib.ListN.{drop}
use Rattle.printing.specs.Wrote.{line_bytes}
use Rattle.printing.proofs.Progress.{Onward}
use Rattle.printing.proofs.Line.{separated}
use Rattle.printing.proofs.Writer.line.Given as goal

abbrev pub invariant-loop-i : goal.invariant-loop-i
invariant-loop-i l = Onward (line_bytes l.key l.numbers) l.fn.self l.self (separated (drop l.i l.numbers))
