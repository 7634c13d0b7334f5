-- `pairrules::order_by`: the keys of the rows before the k-th are written, and the places are sorted by them.
use mathlib.Core.Path.{◌≡◌}
use lib.ListN.{length}
use Rattle.std.specs.Fn.{FnReturnsAt}
use Rattle.pairrules.proofs.Sorted.{Written}
use Rattle.pairrules.proofs.order_by.Given as goal

abbrev pub invariant-loop-k : goal.invariant-loop-k
invariant-loop-k g l = Written (FnReturnsAt g.F.Fn l.field) l.rows l.fn.on l.keys l.k × (length l.keys ≡ length l.initial.keys)
