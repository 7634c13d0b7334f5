-- The first item of a code among those that are left is the first among all.
use mathlib.Core.Path.{◌≡◌, sym, ap, ◌∙◌}
use Prim.Native.Nat.{◌+◌}
use native.Mathlib.Omega.{arith}
use Rattle.meaning.specs.Lists.{order_in}
use Rattle.ranges.proofs.Clashes.{codes, code_here, code_behind}
use Rattle.ranges.proofs.first_of_code.Goals as goal

pub returns-then-item_word-code : goal.returns-then-item_word-code
returns-then-item_word-code c count h =
    let ws = c.args.items.now in
    sym (code_here ws count c.item_word-code.result c.loop-passed.passed (omega arith) (sym c.item_word.ensures ∙ c.if-item_word-code.true))
    ∙ c.loop-passed.invariant count h ∙ ap (order_in (codes ws count)) c.item_word-code.ensures

pub loop-passed-preserved : goal.loop-passed-preserved
loop-passed-preserved c count h =
    sym (code_behind c.args.items.now count c.item_word-code.result c.loop-passed.passed (omega arith) (λ e. c.if-item_word-code.false (c.item_word.ensures ∙ e)))
    ∙ c.loop-passed.invariant count h

pub returns : goal.returns
returns c count h =
    let ws = c.args.items.now in
    let this : c.loop-passed.passed + 1 ≡ c.args.item = omega arith in
    sym this ∙ sym (code_here ws count c.item_word-code.result c.loop-passed.passed (omega arith) (rw this (sym c.item_word-code.ensures)))
    ∙ c.loop-passed.invariant count h ∙ ap (order_in (codes ws count)) c.item_word-code.ensures
