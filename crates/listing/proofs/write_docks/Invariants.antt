-- `listing::write_docks`: the docks from the next supplier's on are still to be written.
use Rattle.meaning.specs.Model.{truck_numbered}
use Rattle.meaning.specs.Reorder.{ended}
use Rattle.meaning.specs.Print.{printed_line}
use Rattle.meaning.specs.Table.{instance_in}
use Rattle.printing.proofs.Progress.{Listing}
use Rattle.listing.proofs.write_docks.Given as goal

abbrev pub invariant-loop-passed : goal.invariant-loop-passed
invariant-loop-passed l =
    Listing (λ ns. ended (printed_line "docks=" ns)) (truck_numbered (instance_in l.table.named.limits l.table.named.words.now) l.n).docks l.initial.out l.out l.passed
