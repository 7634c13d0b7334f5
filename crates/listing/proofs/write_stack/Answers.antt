-- `listing::write_stack`: the line of its fields, then the line of its load.
use native.Mathlib.Omega.{arith}
use Rattle.printing.proofs.Progress.{appended_both, room_front, room_behind}
use Rattle.listing.proofs.Lines.{line_room, line_wrote}
use Rattle.listing.proofs.write_stack.Goals as goal

pub line-requires : goal.line-requires
line-requires c = (omega arith, line_room "stack=" c.stack_fields.ensures.0 (room_front _ c.requires.1))

pub line-requires-2 : goal.line-requires-2
line-requires-2 c =
    let second = room_behind c.requires.1 (line_wrote "stack=" c.stack_fields.ensures.0 c.line.ensures) in
    (c.load.ensures.1.some, line_room "load=" c.load.ensures.0 second)

pub returns : goal.returns
returns c = appended_both (line_wrote "stack=" c.stack_fields.ensures.0 c.line.ensures) (line_wrote "load=" c.load.ensures.0 c.line-2.ensures)
