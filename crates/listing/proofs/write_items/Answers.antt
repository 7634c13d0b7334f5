-- `listing::write_items`: the items from the next one on are still to be written.
use mathlib.Core.Path.{◌∙◌}
use mathlib.Core.List.{[]}
use native.Mathlib.Omega.{arith}
use Rattle.printing.proofs.Progress.{listing_room, listing_next, listing_end}
use Rattle.listing.proofs.Lines.{line_room, line_wrote, numbered}
use Rattle.listing.proofs.write_items.Goals as goal

pub line-requires : goal.line-requires
line-requires c =
    let fields-are = c.item_fields.ensures.0 ∙ numbered _ [] c.loop-n.n in
    (omega arith, line_room "item=" fields-are (listing_room c.loop-n.invariant [] (omega arith)))

pub loop-n-preserved : goal.loop-n-preserved
loop-n-preserved c =
    let fields-are = c.item_fields.ensures.0 ∙ numbered _ [] c.loop-n.n in
    listing_next c.loop-n.invariant [] (omega arith) (line_wrote "item=" fields-are c.line.ensures)

pub returns : goal.returns
returns c = listing_end c.loop-n.invariant (omega arith)
