-- `pairrules::keeps_single_pair`: the stacks passed keep the rule with those behind them, and in the end that is every pair.
use Rattle.meaning.specs.Table.{instance_in}
use Rattle.meaning.proofs.Tests.{iff_trans}
use Rattle.pairrules.proofs.Places.{upto_broken, upto_all}
use Rattle.pairrules.proofs.Pairs.{single_block}
use Rattle.pairrules.proofs.keeps_single_pair.Goals as goal

pub returns-then-not-is_single_behind : goal.returns-then-not-is_single_behind
returns-then-not-is_single_behind c =
    iff_trans (upto_broken c.loop-a.invariant c.loop-a-test.true c.is_single_behind.ensures c.if-not-is_single_behind.true)
    (single_block (instance_in c.args.manifest.table.named.limits c.args.manifest.table.named.words.now) c.requires)

pub returns : goal.returns
returns c = iff_trans (upto_all c.loop-a.invariant c.loop-a-test.false) (single_block (instance_in c.args.manifest.table.named.limits c.args.manifest.table.named.words.now) c.requires)
