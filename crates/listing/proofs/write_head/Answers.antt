-- `listing::write_head`: five lines, one behind the other.
use Rattle.printing.proofs.Progress.{appended_both, room_front, room_behind}
use Rattle.listing.proofs.Lines.{line_room, line_wrote, one}
use Rattle.listing.proofs.write_head.Goals as goal

pub write_one-requires : goal.write_one-requires
write_one-requires c =
    line_room "transport=" (one c.transport_coefficient.ensures.0) (room_front _ c.requires)

pub write_one-requires-2 : goal.write_one-requires-2
write_one-requires-2 c =
    let first = room_behind c.requires (line_wrote "transport=" (one c.transport_coefficient.ensures.0) c.write_one.ensures) in
    line_room "inventory=" (one c.inventory_coefficient.ensures.0) (room_front _ first)

pub write_one-requires-3 : goal.write_one-requires-3
write_one-requires-3 c =
    let first = room_behind c.requires (line_wrote "transport=" (one c.transport_coefficient.ensures.0) c.write_one.ensures) in
    let second = room_behind first (line_wrote "inventory=" (one c.inventory_coefficient.ensures.0) c.write_one-2.ensures) in
    line_room "extra=" (one c.extra_coefficient.ensures.0) (room_front _ second)

pub write_one-requires-4 : goal.write_one-requires-4
write_one-requires-4 c =
    let first = room_behind c.requires (line_wrote "transport=" (one c.transport_coefficient.ensures.0) c.write_one.ensures) in
    let second = room_behind first (line_wrote "inventory=" (one c.inventory_coefficient.ensures.0) c.write_one-2.ensures) in
    let third = room_behind second (line_wrote "extra=" (one c.extra_coefficient.ensures.0) c.write_one-3.ensures) in
    line_room "items=" (one c.item_count.ensures.0) (room_front _ third)

pub write_one-requires-5 : goal.write_one-requires-5
write_one-requires-5 c =
    let first = room_behind c.requires (line_wrote "transport=" (one c.transport_coefficient.ensures.0) c.write_one.ensures) in
    let second = room_behind first (line_wrote "inventory=" (one c.inventory_coefficient.ensures.0) c.write_one-2.ensures) in
    let third = room_behind second (line_wrote "extra=" (one c.extra_coefficient.ensures.0) c.write_one-3.ensures) in
    let fourth = room_behind third (line_wrote "items=" (one c.item_count.ensures.0) c.write_one-4.ensures) in
    line_room "trucks=" (one c.truck_count.ensures.0) fourth

pub returns : goal.returns
returns c =
    appended_both (line_wrote "transport=" (one c.transport_coefficient.ensures.0) c.write_one.ensures)
    (appended_both (line_wrote "inventory=" (one c.inventory_coefficient.ensures.0) c.write_one-2.ensures)
    (appended_both (line_wrote "extra=" (one c.extra_coefficient.ensures.0) c.write_one-3.ensures)
    (appended_both (line_wrote "items=" (one c.item_count.ensures.0) c.write_one-4.ensures)
    (line_wrote "trucks=" (one c.truck_count.ensures.0) c.write_one-5.ensures))))
