-- `printing::Writer::byte`: the byte stands behind what was written.
use Rattle.printing.proofs.Progress.{byte_put}
use Rattle.printing.proofs.Writer.byte.Goals as goal

pub returns : goal.returns
returns c = byte_put c.args.self.now c.requires
