-- `judging::ask_trucks`: what the used trucks from the current place on answer is right, and no truck has stacks on both sides of it.
use Rattle.meaning.specs.Table.{instance_in, stacks_in}
use Rattle.judging.proofs.Told.{Told}
use lib.ListN.{length}
use mathlib.Core.Path.{◌≡◌}
use Rattle.judging.proofs.ask_trucks.Given as goal

abbrev pub invariant-loop-end : goal.invariant-loop-end
invariant-loop-end l = Told l.asked (instance_in l.manifest.table.named.limits l.manifest.table.named.words.now) (stacks_in l.manifest.table.named.limits l.manifest.table.named.words.now) l.end l.found
    l.used.count l.used.cost
    × (length l.keys ≡ length l.initial.keys) × (length l.along ≡ length l.initial.along)

abbrev pub decreases-loop-end : goal.decreases-loop-end
decreases-loop-end l = l.end
