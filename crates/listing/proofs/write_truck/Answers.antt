-- `listing::write_truck`: its own line and its lists, one behind the other.
use native.Mathlib.Omega.{arith}
use Rattle.table.proofs.Access.{truck_in_lem}
use Rattle.printing.proofs.Progress.{appended_both, room_front, room_behind}
use Rattle.listing.proofs.Lines.{line_asks, line_wrote}
use Rattle.listing.proofs.Files.{truck_parts}
use Rattle.listing.proofs.write_truck.Goals as goal

pub line-requires : goal.line-requires
line-requires c =
    let meets = truck_in_lem c.args.table.filled c.args.n c.requires.0 in
    let room = rw truck_parts at c.requires.1 in
    line_asks "truck=" c.truck_fields.ensures.0 (omega (arith, meets.fields.least)) (room_front _ room)

pub line-requires-2 : goal.line-requires-2
line-requires-2 c =
    let meets = truck_in_lem c.args.table.filled c.args.n c.requires.0 in
    let room = rw truck_parts at c.requires.1 in
    let first = room_behind room (line_wrote "truck=" c.truck_fields.ensures.0 c.line.ensures) in
    line_asks "products=" c.products.ensures.0 meets.products.least (room_front _ first)

pub line-requires-3 : goal.line-requires-3
line-requires-3 c =
    let meets = truck_in_lem c.args.table.filled c.args.n c.requires.0 in
    let room = rw truck_parts at c.requires.1 in
    let first = room_behind room (line_wrote "truck=" c.truck_fields.ensures.0 c.line.ensures) in
    let second = room_behind first (line_wrote "products=" c.products.ensures.0 c.line-2.ensures) in
    line_asks "suppliers=" c.suppliers.ensures.0 meets.suppliers.least (room_front _ second)

pub write_docks-requires : goal.write_docks-requires
write_docks-requires c =
    let room = rw truck_parts at c.requires.1 in
    let first = room_behind room (line_wrote "truck=" c.truck_fields.ensures.0 c.line.ensures) in
    let second = room_behind first (line_wrote "products=" c.products.ensures.0 c.line-2.ensures) in
    let third = room_behind second (line_wrote "suppliers=" c.suppliers.ensures.0 c.line-3.ensures) in
    (c.requires.0, room_front _ third)

pub line-requires-4 : goal.line-requires-4
line-requires-4 c =
    let meets = truck_in_lem c.args.table.filled c.args.n c.requires.0 in
    let room = rw truck_parts at c.requires.1 in
    let first = room_behind room (line_wrote "truck=" c.truck_fields.ensures.0 c.line.ensures) in
    let second = room_behind first (line_wrote "products=" c.products.ensures.0 c.line-2.ensures) in
    let third = room_behind second (line_wrote "suppliers=" c.suppliers.ensures.0 c.line-3.ensures) in
    let fourth = room_behind third c.write_docks.ensures in
    line_asks "plantdocks=" c.plant_docks.ensures.0 meets.plant_docks.least fourth

pub returns : goal.returns
returns c =
    rw truck_parts (
    appended_both (line_wrote "truck=" c.truck_fields.ensures.0 c.line.ensures)
    (appended_both (line_wrote "products=" c.products.ensures.0 c.line-2.ensures)
    (appended_both (line_wrote "suppliers=" c.suppliers.ensures.0 c.line-3.ensures)
    (appended_both c.write_docks.ensures
    (line_wrote "plantdocks=" c.plant_docks.ensures.0 c.line-4.ensures)))))
