-- `printing::Writer::text`: the text stands behind what was written.
use mathlib.Core.Path.{refl}
use Rattle.printing.proofs.Progress.{run_put}
use Rattle.printing.proofs.Writer.text.Goals as goal

pub returns : goal.returns
returns c = run_put c.args.self.now c.requires refl c.copy_from_slice.ensures.after
