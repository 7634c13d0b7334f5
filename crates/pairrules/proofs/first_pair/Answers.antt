-- `pairrules::first_pair`: the stacks and their partners are taken by ascending number, so the first broken pair is the lowest; what is not asked has been.
use mathlib.Core.Path.{refl, ◌∙◌}
use mathlib.Core.Logic.{inr}
use native.Mathlib.Omega.{arith}
use lib.Seq.{get_or-take, length-take-le}
use Rattle.pairrules.proofs.Search.{numbered_within, stacks_more}
use Rattle.pairrules.proofs.Search.{pair_found, pair_none}
use Rattle.pairrules.proofs.first_pair.Goals as goal

pub block_at-on-requires : goal.block_at-on-requires
block_at-on-requires c =
    let count = c.stack_count-count.result in
    let listed = length-take-le count c.args.by_number.now (omega (arith, c.stack_count-count.ensures, c.requires.room)) in
    let here = get_or-take count c.args.by_number.now c.search.place-index 0 (omega (arith, c.search-test.true, listed)) in
    let within = numbered_within c.search.invariant.0 c.search.place-index (omega (arith, c.stack_count-count.ensures, c.search-test.true, listed)) in
    (omega (arith, c.stack_count-count.ensures, within, here), omega (arith, c.stack_count-count.ensures, c.search.invariant.0.held.room), rw c.stack_count-count.ensures.0 c.search.invariant.1)

pub search-preserved : goal.search-preserved
search-preserved c = (stacks_more c.loop-b.invariant.0 c.loop-b.invariant.1 c.loop-b-test.false, inr (_, c.loop-b.invariant.1.around), c.loop-b.invariant.2)

pub returns-after-search : goal.returns-after-search
returns-after-search c =
    let listed = length-take-le c.stack_count-count.result c.args.by_number.now (omega (arith, c.stack_count-count.ensures, c.requires.room)) in
    c.search.invariant.2 ∙ pair_none c.search.invariant.0 (omega (arith, c.stack_count-count.ensures, c.search-test.false, listed))

pub returns-then-not-pair_kept : goal.returns-then-not-pair_kept
returns-then-not-pair_kept c =
    pair_found c.loop-b.invariant.0 c.loop-b.invariant.1 c.loop-b-test.true c.pair_kept.ensures c.if-not-pair_kept.true
    refl refl
