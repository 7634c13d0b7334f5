-- `ListedStack::breach`: the breach so far is that of the items from the top down, in the end of the whole stack.
use mathlib.Core.Path.{◌≡◌, refl, ◌∙◌}
use native.Mathlib.Omega.{arith}
use Rattle.views.proofs.Back.{back_step, back_end}
use Rattle.stackrules.proofs.Items.{load_places}
use Rattle.stackrules.proofs.Stacks.{stack_same}
use Rattle.stackrules.proofs.Kept.{all_kept_lem}
use Rattle.stackrules.proofs.First.{from_none, from_more, from_kept, from_end, first_same}
use Rattle.stackrules.proofs.listed_stack.ListedStack.breach.Goals as goal

pub loop-n-init : goal.loop-n-init
loop-n-init c = from_none (omega arith)

pub invariant_of-item : goal.invariant_of-item
invariant_of-item c =
    let t = back_step c.load-items.result.now _ _ _ c.loop-n.yielded_by _ _ c.next.ensures.steps 0 c.in-Some.is cc in
    record { known = (c.row-s.ensures.known, rw t.is (c.load-items.ensures.1.entries _ (omega (arith, t.more)))) }

pub loop-n-preserved-then-not-own-keeps_rules : goal.loop-n-preserved-then-not-own-keeps_rules
loop-n-preserved-then-not-own-keeps_rules c =
    let t = back_step _ _ _ _ c.loop-n.yielded_by _ _ c.next.ensures.steps 0 c.in-Some.is refl in
    rw t.left (from_more 0 c.loop-n.invariant t.more (rw t.is at c.breach_with_item.ensures) c.lower_of-first.ensures)

pub loop-n-preserved : goal.loop-n-preserved
loop-n-preserved c =
    let t = back_step _ _ _ _ c.loop-n.yielded_by _ _ c.next.ensures.steps 0 c.in-Some.is refl in
    let same = stack_same c.row-s.ensures in
    rw t.left (from_kept 0 c.loop-n.invariant t.more
    (all_kept_lem _ _ _ same c.own_rules_kept-own.ensures (rw t.is at c.keeps_rules.ensures) c.if-not-own-keeps_rules.false))

pub returns : goal.returns
returns c =
    let same = stack_same c.row-s.ensures in
    let none = back_end _ _ _ _ c.loop-n.yielded_by _ _ c.next.ensures.steps c.in-None.is refl in
    let all : c.into_iter-n-iterator.result.iter.rest.now ≡ c.load-items.result.now = cc in
    first_same (from_end c.loop-n.invariant none) (load_places _ _ (all ∙ rw (← same) c.load-items.ensures.0) (rw all c.load-items.ensures.1.some))
