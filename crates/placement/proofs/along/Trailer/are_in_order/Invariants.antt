-- `Trailer::are_in_order`: each stack is asked with those before it, and with those behind it keeps the order anyway.
use mathlib.Core.Path.{◌≡◌}
use mathlib.Core.Bool.{true}
use Prim.Native.Nat.{◌-◌}
use Rattle.pairrules.specs.PairRules.{in_order_at, Each, place_at}
use Rattle.pairrules.proofs.Places.{Upto}
use Rattle.placement.proofs.along.Trailer.are_in_order.Given as goal

abbrev pub invariant-loop-k : goal.invariant-loop-k
invariant-loop-k l = Upto (λ i. Each (λ j. in_order_at l.self.rows.now (place_at l.self.on l.self.along.now i) (place_at l.self.on l.self.along.now j) ≡ true) 0 i) 0 (l.self.on.end - l.self.on.start) l.k
