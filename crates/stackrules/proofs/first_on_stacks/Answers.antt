-- `stackrules::first_on_stacks`: the breach so far is that of the stacks so far, in the end of all.
use Prim.Native.Nat.{◌-◌}
use Rattle.table.specs.Filled.{no_stack}
use Rattle.table.specs.Held.{stacks_of}
use Rattle.manifest.proofs.Order.{manifest_length, manifest_at_lem}
use Rattle.stackrules.proofs.First.{from_none, from_more, from_end, first_same, lowest_listed, manifest_known}
use Rattle.stackrules.proofs.first_on_stacks.Goals as goal

pub loop-k-init : goal.loop-k-init
loop-k-init c = from_none (rw (manifest_length (stacks_of c.args.manifest.table)) c.stack_count-k.ensures.0)

pub loop-k-preserved : goal.loop-k-preserved
loop-k-preserved c =
    let p = stacks_of c.args.manifest.table in
    let at = manifest_at_lem p (c.loop-k.k - 1) (manifest_known p c.loop-k.invariant c.loop-k-test.true) in
    from_more no_stack c.loop-k.invariant c.loop-k-test.true (rw at c.breach.ensures) c.lower_of-first.ensures

pub returns : goal.returns
returns c = first_same (from_end c.loop-k.invariant c.loop-k-test.false) (λ rule on. lowest_listed _ rule on _)
