-- What writing the files promises is promised here.
use Rattle.kaqlluwe.proofs.kaqlluwe_write.Goals as goal

pub returns : goal.returns
returns c = c.write_files.ensures
