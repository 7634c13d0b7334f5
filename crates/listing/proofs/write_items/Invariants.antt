-- `listing::write_items`: the items from the next one on are still to be written.
use Rattle.meaning.specs.Reorder.{ended}
use Rattle.meaning.specs.Print.{printed_line}
use Rattle.meaning.specs.Table.{instance_in}
use Rattle.printing.proofs.Progress.{Listing}
use Rattle.listing.proofs.write_items.Given as goal

abbrev pub invariant-loop-n : goal.invariant-loop-n
invariant-loop-n l = Listing (λ ns. ended (printed_line "item=" ns)) (instance_in l.table.named.limits l.table.named.words.now).items l.initial.out l.out l.n
