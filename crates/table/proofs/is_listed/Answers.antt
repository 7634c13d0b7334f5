-- `table::is_listed`: each number passed is one more that may be it.
use Rattle.std.proofs.Common.{◌∙◌, sym, ap, ◌||◌, nat_eq, get_or, arith}
use Rattle.table.proofs.Order.{listed_more, listed_none}
use Rattle.table.proofs.is_listed.Goals as goal

pub loop-listed-init : goal.loop-listed-init
loop-listed-init c = listed_none c.args.identifier

pub loop-listed-preserved : goal.loop-listed-preserved
loop-listed-preserved c =
    let l = c.loop-listed in
    ap (λ b. b || nat_eq c.args.identifier (get_or c.args.list.now l.listed-index 0)) l.invariant
    ∙ sym (listed_more c.args.identifier c.args.list.now l.listed-index (omega arith))
