-- `pairrules::keeps_single_pair`: the stacks passed keep the rule with those behind them, and in the end that is every pair.
use mathlib.Core.Path.{◌≡◌}
use mathlib.Core.Bool.{true}
use Prim.Native.Nat.{◌+◌}
use Rattle.meaning.specs.Rules.{single_pair}
use Rattle.meaning.specs.Table.{instance_in, stacks_in}
use Rattle.manifest.specs.Manifest.{manifest_at}
use Rattle.pairrules.specs.PairRules.{Each}
use Rattle.pairrules.proofs.Places.{Upto}
use Rattle.pairrules.proofs.keeps_single_pair.Given as goal

abbrev pub invariant-loop-a : goal.invariant-loop-a
invariant-loop-a l = Upto (λ j. Each (λ k. single_pair (instance_in l.manifest.table.named.limits l.manifest.table.named.words.now) (manifest_at (stacks_in l.manifest.table.named.limits l.manifest.table.named.words.now) j) (manifest_at (stacks_in l.manifest.table.named.limits l.manifest.table.named.words.now) k) ≡ true) (j + 1) l.on.end) l.on.start l.on.end l.a
