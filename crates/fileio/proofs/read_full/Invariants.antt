-- What was read lies within the buffer, and each turn reads at least one byte more.
use Rattle.std.proofs.Common.{length, take, ◌-◌, ◌≤◌}
use Rattle.std.specs.Io.KnownBytes.{Consumes}
use Rattle.fileio.proofs.read_full.Given as goal

abbrev pub invariant-loop-n : goal.invariant-loop-n
invariant-loop-n g l = record {
  within : l.done ≤ length l.buffer;
  read : Consumes (g.F.Read.remaining l.initial.file) (g.F.Read.remaining l.file) (take l.done l.buffer);
}

abbrev pub decreases-loop-n : goal.decreases-loop-n
decreases-loop-n g l = length l.initial.buffer - l.done
