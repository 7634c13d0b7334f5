-- The limits of document 01 leave room for every file.
use Rattle.writing.proofs.Outcomes.{small_room}
use Rattle.writing.proofs.write_files.Goals as goal

pub write_within-requires : goal.write_within-requires
write_within-requires c = small_room _ c.small_limits.ensures.0 c.small_limits.ensures.1
