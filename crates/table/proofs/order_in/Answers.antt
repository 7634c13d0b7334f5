-- `table::order_in`: a place from 0 is one more from 1.
use Rattle.std.proofs.Common.{◌∙◌, ap, sym, nat_eq, arith}
use Rattle.std.proofs.lemmas.List.Quantifiers.{position-Some}
use Rattle.table.proofs.Order.{order_of, order_place}
use Rattle.table.proofs.order_in.Goals as goal

pub returns-in-Some : goal.returns-in-Some
returns-in-Some c =
    let a = c.args in
    let e = sym c.place_of.ensures ∙ c.in-Some.is in
    let within = position-Some (nat_eq a.identifier) a.list.now c.in-Some.place 0 e in
    (sym (order_place a.identifier a.list.now ∙ ap order_of e), omega (arith, within.0))

pub returns-in-None : goal.returns-in-None
returns-in-None c =
    let a = c.args in
    (sym (order_place a.identifier a.list.now ∙ ap order_of (sym c.place_of.ensures ∙ c.in-None.is)), omega arith)
