-- Before each turn the suppliers so far have their words.
use Rattle.std.specs.Prelude.{Ok}
use Rattle.meaning.specs.Reader.{line}
use Rattle.meaning.specs.Files.{docks_line}
use Rattle.trucks.proofs.Repeat.{Repeat}
use Rattle.trucks.proofs.Docks.{Docks}
use Rattle.trucks.proofs.read_docks.Given as goal

abbrev pub invariant-loop-k : goal.invariant-loop-k
invariant-loop-k l = Repeat (line docks_line) Docks l.suppliers (Ok l.initial.next) l.part (Ok l.next) l.k
