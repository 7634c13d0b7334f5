-- A line that was read ends behind where it began, so the cases end the loop.
use Rattle.std.proofs.Common.{length, ◌-◌}
use Rattle.stored_cases.proofs.run.Given as goal

abbrev pub decreases-loop-parsed : goal.decreases-loop-parsed
decreases-loop-parsed g l = length l.cases - l.at
