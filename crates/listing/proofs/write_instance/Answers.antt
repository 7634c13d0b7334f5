-- `listing::write_instance`: the head, the items, the trucks.
use Rattle.std.proofs.Common.{rules}
use Rattle.printing.proofs.Progress.{appended_both, room_front, room_behind, new_room, new_wrote}
use Rattle.listing.proofs.Files.{instance_parts}
use Rattle.listing.proofs.write_instance.Goals as goal

pub write_head-requires : goal.write_head-requires
write_head-requires c = room_front _ (rw instance_parts at (new_room {new = c.new-file.result} c.new-file.ensures.nothing_written c.requires))

pub write_items-requires : goal.write_items-requires
write_items-requires c =
    let room = rw instance_parts at (new_room {new = c.new-file.result} c.new-file.ensures.nothing_written c.requires) in
    room_front _ (room_behind room c.write_head.ensures)

pub write_trucks-requires : goal.write_trucks-requires
write_trucks-requires c =
    let room = rw instance_parts at (new_room {new = c.new-file.result} c.new-file.ensures.nothing_written c.requires) in
    room_behind (room_behind room c.write_head.ensures) c.write_items.ensures

pub returns : goal.returns
returns c =
    let all = appended_both c.write_head.ensures (appended_both c.write_items.ensures c.write_trucks.ensures) in
    new_wrote c.new-file.ensures.nothing_written (rw (← instance_parts) at all) (search rules) (search rules)
