-- `stackrules::count_items`: from the last stack to the first, each adds its items to the counts of the stacks behind it.
use mathlib.Core.Path.{◌≡◌}
use Prim.Native.Nat.{◌≤◌}
use lib.ListN.{length, drop}
use Rattle.table.specs.Held.{instance_of, stacks_of}
use Rattle.stackrules.specs.StackRules.{Tally}
use Rattle.stackrules.proofs.count_items.Given as goal

abbrev pub invariant-loop-s : goal.invariant-loop-s
invariant-loop-s l = let p = stacks_of l.table in
    (l.s ≤ length p) × (length l.times ≡ length l.initial.times) × Tally (length (instance_of l.table).items) (drop l.s p) l.times
