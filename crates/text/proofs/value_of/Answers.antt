-- The library takes the key off the line's front.
use Rattle.text.proofs.Bytes.{key_off}
use Rattle.text.proofs.value_of.Goals as goal

pub returns : goal.returns
returns c = key_off c.args.key.now c.args.line.now c.strip_prefix.result c.strip_prefix.ensures.cases
