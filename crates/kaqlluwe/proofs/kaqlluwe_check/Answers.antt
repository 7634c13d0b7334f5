-- What the check promises is promised here.
use Rattle.kaqlluwe.proofs.kaqlluwe_check.Goals as goal

pub returns : goal.returns
returns c = c.check.ensures
