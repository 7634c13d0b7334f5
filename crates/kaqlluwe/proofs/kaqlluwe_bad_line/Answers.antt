-- What is promised of the place of a bad line is promised here.
use Rattle.kaqlluwe.proofs.kaqlluwe_bad_line.Goals as goal

pub returns : goal.returns
returns c = c.locate.ensures
