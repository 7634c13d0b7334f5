-- `listing::write_stacks`: the stacks from the next one on are still to be written.
use native.Mathlib.Omega.{arith}
use Rattle.table.specs.Filled.{no_stack}
use Rattle.printing.proofs.Progress.{listing_room, listing_next, listing_end}
use Rattle.listing.proofs.write_stacks.Goals as goal

pub write_stack-requires : goal.write_stack-requires
write_stack-requires c = (omega arith, listing_room c.loop-s.invariant no_stack (omega arith))

pub loop-s-preserved : goal.loop-s-preserved
loop-s-preserved c = listing_next c.loop-s.invariant no_stack (omega arith) c.write_stack.ensures

pub returns : goal.returns
returns c = listing_end c.loop-s.invariant (omega arith)
