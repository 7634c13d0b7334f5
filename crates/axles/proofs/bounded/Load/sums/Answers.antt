-- What is summed and what is still to come make the whole sums, and what is summed is within the bounds of all, so it fits.
use native.Mathlib.Omega.{arith}
use borrow.Author.Rules.{rules}
use Rattle.axles.proofs.Walks.{sums_next, sums_end}
use Rattle.axles.proofs.bounded.Load.sums.Goals as goal

pub overflow_add-weight : goal.overflow_add-weight
overflow_add-weight c =
    let next = sums_next c.args.self.bounded c.args.axles.bounded.twice c.loop-row.invariant c.loop-row-test.true (search rules) c.term-term.ensures in
    omega (arith, next.light)

pub overflow_add-levers : goal.overflow_add-levers
overflow_add-levers c =
    (sums_next c.args.self.bounded c.args.axles.bounded.twice c.loop-row.invariant c.loop-row-test.true (search rules) c.term-term.ensures).fits

pub loop-row-preserved : goal.loop-row-preserved
loop-row-preserved c =
    (sums_next c.args.self.bounded c.args.axles.bounded.twice c.loop-row.invariant c.loop-row-test.true (search rules) c.term-term.ensures).sums

pub returns : goal.returns
returns c = sums_end c.args.self.bounded c.args.axles.bounded.twice c.loop-row.invariant c.loop-row-test.false
