-- `pairrules::first_pair`: the stacks and their partners are taken by ascending number, so the first broken pair is the lowest; what is not asked has been.
use mathlib.Core.Path.{◌≡◌}
use lib.ListN.{length}
use Rattle.meaning.specs.Table.{stacks_in}
use Rattle.std.specs.Prelude.{None}
use Rattle.pairrules.specs.PairRules.{KnownBlock}
use Rattle.pairrules.proofs.Search.{StacksPassed, PartnersPassed}
use Rattle.pairrules.proofs.first_pair.Given as goal

abbrev pub invariant-loop-b : goal.invariant-loop-b
invariant-loop-b l = StacksPassed l.rule l.manifest.table.named.limits l.manifest.table.named.words.now l.manifest.rows.now l.by_number l.place-index × PartnersPassed l.rule l.manifest.table.named.limits l.manifest.table.named.words.now l.manifest.rows.now l.by_number l.place-index l.a l.on l.b × (l.found ≡ None)

abbrev pub invariant-search : goal.invariant-search
invariant-search l = StacksPassed l.rule l.manifest.table.named.limits l.manifest.table.named.words.now l.manifest.rows.now l.by_number l.place-index × KnownBlock l.manifest.rows.now (length (stacks_in l.manifest.table.named.limits l.manifest.table.named.words.now)) l.on × (l.found ≡ None)
