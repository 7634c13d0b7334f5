-- `pairrules::is_single_behind`: a stack without two plant docks keeps the rule with any other; else each behind it is asked.
use mathlib.Core.Path.{◌≡◌}
use mathlib.Core.Bool.{true}
use Prim.Native.Nat.{◌+◌}
use Rattle.meaning.specs.Rules.{single_pair}
use Rattle.meaning.specs.Table.{instance_in, stacks_in}
use Rattle.manifest.specs.Manifest.{manifest_at}
use Rattle.pairrules.proofs.Places.{Upto}
use Rattle.pairrules.proofs.is_single_behind.Given as goal

abbrev pub invariant-loop-b : goal.invariant-loop-b
invariant-loop-b l = Upto (λ k. single_pair (instance_in l.manifest.table.named.limits l.manifest.table.named.words.now) (manifest_at (stacks_in l.manifest.table.named.limits l.manifest.table.named.words.now) l.a) (manifest_at (stacks_in l.manifest.table.named.limits l.manifest.table.named.words.now) k) ≡ true) (l.a + 1) l.end l.b
