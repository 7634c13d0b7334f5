-- `listing::write_docks`: the docks from the next supplier's on are still to be written.
use mathlib.Core.Path.{ap, ◌∙◌}
use mathlib.Core.List.{[]}
use Prim.Native.Nat.{◌<◌}
use native.Mathlib.Omega.{arith}
use lib.ListN.{length}
use Rattle.meaning.specs.Model.{Truck, truck_numbered}
use Rattle.meaning.specs.Files.{docks_line}
use Rattle.meaning.specs.Meets.{Meets, TruckMeets}
use Rattle.meaning.specs.Table.{instance_in}
use Rattle.meaning.proofs.Lists.{every_at}
use Rattle.table.proofs.Access.{truck_in_lem}
use Rattle.printing.proofs.Progress.{listing_room, listing_next, listing_end}
use Rattle.listing.proofs.Lines.{line_asks, line_wrote, numbered}
use Rattle.listing.proofs.write_docks.Goals as goal

pub line-requires : goal.line-requires
line-requires c =
    let truck : Truck =
    let a = c.args in truck_numbered (instance_in a.table.named.limits a.table.named.words.now) a.n in
    let meets : TruckMeets truck =
    truck_in_lem c.args.table.filled c.args.n c.requires.0 in
    let within : c.loop-passed.passed < length truck.docks =
    omega (arith, meets.dock_lines, ap length c.suppliers-visited.ensures.0) in
    let docks-are = c.docks.ensures.0 ∙ numbered truck.docks [] c.loop-passed.passed in
    line_asks "docks=" docks-are (every_at (Meets docks_line) truck.docks [] c.loop-passed.passed meets.docks within).least
    (listing_room c.loop-passed.invariant [] within)

pub loop-passed-preserved : goal.loop-passed-preserved
loop-passed-preserved c =
    let meets = truck_in_lem c.args.table.filled c.args.n c.requires.0 in
    let docks-are = c.docks.ensures.0 ∙ numbered _ [] c.loop-passed.passed in
    listing_next c.loop-passed.invariant [] (omega (arith, meets.dock_lines, ap length c.suppliers-visited.ensures.0))
    (line_wrote "docks=" docks-are c.line.ensures)

pub returns : goal.returns
returns c =
    let visited = c.suppliers-visited.ensures.0 in
    listing_end c.loop-passed.invariant (omega (arith, ap length visited, (truck_in_lem c.args.table.filled c.args.n c.requires.0).dock_lines))
