-- `listing::write_stacks`: the stacks from the next one on are still to be written.
use Rattle.meaning.specs.Table.{stacks_in}
use Rattle.printing.proofs.Progress.{Listing}
use Rattle.listing.specs.Parts.{stack_bytes}
use Rattle.listing.proofs.write_stacks.Given as goal

abbrev pub invariant-loop-s : goal.invariant-loop-s
invariant-loop-s l = Listing stack_bytes (stacks_in l.table.named.limits l.table.named.words.now) l.initial.out l.out l.s
