-- Row after row: the rows from the next one on, behind those that passed, decide how many entries all loads hold.
use Rattle.stored.proofs.Rows.{Left}
use Rattle.stored.proofs.loaded_by.Given as goal

abbrev pub invariant-loop-k : goal.invariant-loop-k
invariant-loop-k l = Left l.most l.trucks l.count l.words l.loaded l.k
