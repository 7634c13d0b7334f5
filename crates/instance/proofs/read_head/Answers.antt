-- Each line goes on from where the line before ends, and the five numbers are stored over zeros; the first line that is refused ends the
-- reading.
use mathlib.Core.Path.{refl, ap, ◌∙◌}
use Prim.Native.Nat.{ℕ}
use lib.ListN.{replicate}
use Rattle.lines.proofs.Number.{number_read, number_refused}
use Rattle.instance.proofs.HeadLines.{transport_refused, inventory_refused, extra_refused, items_refused, trucks_refused, head_refused, head_promised, head_words_lem}
use Rattle.instance.proofs.read_head.Goals as goal

pub returns-in_err-transport : goal.returns-in_err-transport
returns-in_err-transport c =
    head_refused _ c.from_residual.ensures.1
    (transport_refused _
    (number_refused c.in_err-transport.was (c.head_line.ensures.says "transport=" refl) c.head_line.ensures.within.0))

pub returns-in_err-inventory : goal.returns-in_err-inventory
returns-in_err-inventory c =
    head_refused _ c.from_residual-in_err-inventory.ensures.1
    (inventory_refused _
    (number_read c.in_ok-transport.was (c.head_line.ensures.says "transport=" refl) c.head_line.ensures.within.0)
    (number_refused c.in_err-inventory.was (c.head_line-2.ensures.says "inventory=" refl) c.head_line-2.ensures.within.0))

pub returns-in_err-extra : goal.returns-in_err-extra
returns-in_err-extra c =
    head_refused _ c.from_residual-in_err-extra.ensures.1
    (extra_refused _
    (number_read c.in_ok-transport.was (c.head_line.ensures.says "transport=" refl) c.head_line.ensures.within.0)
    (number_read c.in_ok-inventory.was (c.head_line-2.ensures.says "inventory=" refl) c.head_line-2.ensures.within.0)
    (number_refused c.in_err-extra.was (c.head_line-3.ensures.says "extra=" refl) c.head_line-3.ensures.within.0))

pub returns-in_err-items : goal.returns-in_err-items
returns-in_err-items c =
    head_refused _ c.from_residual-in_err-items.ensures.1
    (items_refused _
    (number_read c.in_ok-transport.was (c.head_line.ensures.says "transport=" refl) c.head_line.ensures.within.0)
    (number_read c.in_ok-inventory.was (c.head_line-2.ensures.says "inventory=" refl) c.head_line-2.ensures.within.0)
    (number_read c.in_ok-extra.was (c.head_line-3.ensures.says "extra=" refl) c.head_line-3.ensures.within.0)
    (number_refused c.in_err-items.was (c.head_line-4.ensures.says "items=" refl) c.head_line-4.ensures.within.0))

pub returns-in_err-trucks : goal.returns-in_err-trucks
returns-in_err-trucks c =
    head_refused _ c.from_residual-in_err-trucks.ensures.1
    (trucks_refused _
    (number_read c.in_ok-transport.was (c.head_line.ensures.says "transport=" refl) c.head_line.ensures.within.0)
    (number_read c.in_ok-inventory.was (c.head_line-2.ensures.says "inventory=" refl) c.head_line-2.ensures.within.0)
    (number_read c.in_ok-extra.was (c.head_line-3.ensures.says "extra=" refl) c.head_line-3.ensures.within.0)
    (number_read c.in_ok-items.was (c.head_line-4.ensures.says "items=" refl) c.head_line-4.ensures.within.0)
    (number_refused c.in_err-trucks.was (c.head_line-5.ensures.says "trucks=" refl) c.head_line-5.ensures.within.0))

pub returns : goal.returns
returns c =
    head_promised _
    (number_read c.in_ok-transport.was (c.head_line.ensures.says "transport=" refl) c.head_line.ensures.within.0)
    (number_read c.in_ok-inventory.was (c.head_line-2.ensures.says "inventory=" refl) c.head_line-2.ensures.within.0)
    (number_read c.in_ok-extra.was (c.head_line-3.ensures.says "extra=" refl) c.head_line-3.ensures.within.0)
    (number_read c.in_ok-items.was (c.head_line-4.ensures.says "items=" refl) c.head_line-4.ensures.within.0)
    (number_read c.in_ok-trucks.was (c.head_line-5.ensures.says "trucks=" refl) c.head_line-5.ensures.within.0)
    (head_words_lem c.clear.new.words _ _ _ _ _ (c.clear.ensures ∙ ap (λ (k : ℕ). replicate k 0) c.requires))
    (rw c.in_ok-items.was at c.head_line-4.ensures.within.1)
    (rw c.in_ok-trucks.was at c.head_line-5.ensures.within.1)
