-- `table::is_listed`: what is found is told by the numbers that were passed.
use Rattle.std.proofs.Common.{◌≡◌, take}
use Rattle.meaning.specs.Lists.{listed}
use Rattle.table.proofs.is_listed.Given as goal

abbrev pub invariant-loop-listed : goal.invariant-loop-listed
invariant-loop-listed l = l.found ≡ listed l.identifier (take l.listed-index l.list)
