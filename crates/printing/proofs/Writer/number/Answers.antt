-- `printing::Writer::number`: the digits stand behind what was written.
use Rattle.printing.proofs.Progress.{run_put}
use Rattle.printing.proofs.Writer.number.Goals as goal

pub returns : goal.returns
returns c = run_put c.args.self.now c.requires c.digit_count.ensures.0 c.put_digits.ensures
