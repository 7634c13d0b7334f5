-- `listing::write_trucks`: the trucks from the next one on are still to be written.
use Rattle.meaning.specs.Print.{printed_truck}
use Rattle.meaning.specs.Table.{instance_in}
use Rattle.printing.proofs.Progress.{Listing}
use Rattle.listing.proofs.write_trucks.Given as goal

abbrev pub invariant-loop-n : goal.invariant-loop-n
invariant-loop-n l = Listing printed_truck (instance_in l.table.named.limits l.table.named.words.now).trucks l.initial.out l.out l.n
