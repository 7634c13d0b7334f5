-- No item that was asked clashes, so the clashes are those of the items behind.
use Rattle.ranges.proofs.Clashes.{NoneUpTo}
use Rattle.ranges.proofs.lowest_clash.Given as goal

abbrev pub invariant-loop-passed : goal.invariant-loop-passed
invariant-loop-passed l = NoneUpTo l.items l.count l.passed
