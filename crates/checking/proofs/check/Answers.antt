-- What reading refuses is the answer, and the rules decide on readable files.
use Rattle.checking.proofs.Promise.{judged, declined}
use Rattle.checking.proofs.check.Goals as goal

pub returns-in-Err : goal.returns-in-Err
returns-in-Err c = declined _ _ _ _ _ _ _ c.read_files.ensures c.in-Err.is

pub returns-in-Ok : goal.returns-in-Ok
returns-in-Ok c = judged _ _ _ _ _ _ _ c.read_files.ensures c.in-Ok.is c.verdict.ensures
