-- Supplier after supplier: those whose docks are a list behind its count do not decide any more.
use mathlib.Core.Path.{◌≡◌}
use Prim.Native.Nat.{◌*◌}
use lib.ListN.{length, get_or, take, drop}
use Rattle.std.specs.Iterator.Adapters.{zip_first, zip_second}
use Rattle.std.specs.Slice.Iter.{iter_rest}
use Rattle.meaning.specs.Lists.{up_from}
use Rattle.stored.specs.Parts.{entries_stored}
use Rattle.stored.proofs.Scan.{Passed}
use Rattle.stored.proofs.docks_stored.Given as goal

abbrev pub invariant-loop-count : goal.invariant-loop-count
invariant-loop-count l =
    let k = length l.yielded in
    (zip_second l.count-iterator).size ≡ 8
    × (iter_rest (zip_first l.count-iterator) ≡ drop k (take l.suppliers l.counts))
    × ((zip_second l.count-iterator).rest.now ≡ drop (8 * k) l.rows)
    × Passed (λ j. entries_stored (get_or l.counts j 0) (take 8 (drop (8 * j) l.rows))) (up_from 0 l.suppliers) k
