-- `listing::write_plan`: the count of the stacks, then the stacks.
use Rattle.std.proofs.Common.{rules}
use Rattle.printing.proofs.Progress.{appended_both, room_front, room_behind, new_room, new_wrote}
use Rattle.listing.proofs.Lines.{line_room, line_wrote, one}
use Rattle.listing.proofs.Files.{plan_parts}
use Rattle.listing.proofs.write_plan.Goals as goal

pub write_one-requires : goal.write_one-requires
write_one-requires c =
    line_room "stacks=" (one c.stack_count.ensures.0) (room_front _ (rw plan_parts at (new_room {new = c.new-file.result} c.new-file.ensures.nothing_written c.requires)))

pub write_stacks-requires : goal.write_stacks-requires
write_stacks-requires c =
    let room = rw plan_parts at (new_room {new = c.new-file.result} c.new-file.ensures.nothing_written c.requires) in
    room_behind room (line_wrote "stacks=" (one c.stack_count.ensures.0) c.write_one.ensures)

pub returns : goal.returns
returns c =
    let all = appended_both (line_wrote "stacks=" (one c.stack_count.ensures.0) c.write_one.ensures) c.write_stacks.ensures in
    new_wrote c.new-file.ensures.nothing_written (rw (← plan_parts) at all) (search rules) (search rules)
