-- `stackrules::first_on_stacks`: the breach so far is that of the stacks so far, in the end of all.
use mathlib.Core.List.{[], ◌∷◌}
use Rattle.meaning.specs.Model.{Stack}
use Rattle.table.specs.Held.{instance_of, stacks_of}
use Rattle.rules.specs.LoadingRules.{rule_places}
use Rattle.manifest.specs.Manifest.{in_manifest}
use Rattle.stackrules.proofs.First.{FirstFrom}
use Rattle.stackrules.proofs.first_on_stacks.Given as goal

abbrev pub invariant-loop-k : goal.invariant-loop-k
invariant-loop-k l = FirstFrom (λ (s : Stack) rule. rule_places rule (instance_of l.manifest.table) (s ∷ [])) (in_manifest (stacks_of l.manifest.table)) l.k l.first
