-- Each supplier's docks are put behind those before, and their count in front; the first line that is refused ends the reading.
use mathlib.Core.Path.{refl, ap, ◌∙◌}
use Prim.Native.Nat.{ℕ}
use native.Mathlib.Omega.{arith}
use lib.ListN.{replicate}
use Rattle.lines.proofs.Follow.{handed_on}
use Rattle.trucks.specs.Rows.{dock_words}
use Rattle.trucks.proofs.Repeat.{repeat_first, repeat_next, repeat_refused, repeat_done}
use Rattle.trucks.proofs.Docks.{docks_clear, docks_lent, docks_more, docks_words}
use Rattle.trucks.proofs.read_docks.Goals as goal

pub loop-k-init : goal.loop-k-init
loop-k-init c = repeat_first _ _ _ (docks_clear _ (c.clear.ensures ∙ ap (λ (n : ℕ). replicate n 0) c.requires.1))

pub returns-in_err-docks : goal.returns-in_err-docks
returns-in_err-docks c =
    let eight = docks_lent c.loop-k.k c.loop-k.part (omega arith) in
    let refused = rw (c.in_err-docks.was, eight) at (c.identifiers_line.ensures.says "docks=" refl) in
    handed_on c.from_residual.ensures.1 (repeat_refused c.loop-k.invariant (omega arith) refused.into)

pub loop-k-preserved : goal.loop-k-preserved
loop-k-preserved c =
    let eight = docks_lent c.loop-k.k c.loop-k.part (omega arith) in
    let docks = rw (c.in_ok-docks.was, eight) at (c.identifiers_line.ensures.says "docks=" refl) in
    repeat_next c.loop-k.invariant (omega arith) docks.into _ (λ ds s g.
    docks_more s (omega arith) _ docks.into.value _ (omega arith) (docks.into.holds g) docks.count)

pub returns : goal.returns
returns c = repeat_done c.loop-k.invariant dock_words (omega arith) docks_words
