-- Before each turn the rows so far have their words, whatever the reader of a row reads.
use mathlib.Core.List.{List}
use Prim.Native.Nat.{ℕ}
use lib.ListN.{length}
use Rattle.std.specs.Prelude.{Ok}
use Rattle.meaning.specs.Reader.{Reader}
use Rattle.trucks.specs.Rows.{ReadsRow}
use Rattle.trucks.proofs.Repeat.{Repeat, Runs}
use Rattle.trucks.proofs.read_rows.Given as goal

abbrev pub invariant-loop-k : goal.invariant-loop-k
invariant-loop-k g l =
    (reader : Reader (List ℕ)) → ReadsRow (goal.F-post g l.read_row) l.width reader
    → Repeat reader (Runs (length l.fn.part) l.width (λ words. words)) l.count (Ok l.initial.next) l.part (Ok l.next) l.k
