-- `pairrules::order_by`: the keys of the rows before the k-th are written, and the places are sorted by them.
use mathlib.Core.Path.{◌≡◌, refl, subst, ◌∙◌}
use Prim.Native.Nat.{◌-◌, ◌≤◌, ◌<◌}
use native.Mathlib.Omega.{arith}
use lib.ListN.{length, drop, length-set, length-append, length-drop, length-take}
use lib.Seq.{take_at, length-take-le, get_or-take, get_or-drop}
use Rattle.std.proofs.lemmas.Fn.{says_at}
use Rattle.std.specs.Fn.{FnReturnsAt}
use Rattle.manifest.specs.declared.row.Row.{Row}
use Rattle.manifest.specs.Manifest.{no_row}
use Rattle.manifest.proofs.Order.{sort_length}
use Rattle.meaning.proofs.Lists.{length_up_from}
use Rattle.pairrules.proofs.Sorted.{written_more, sorted_by}
use Rattle.pairrules.proofs.order_by.Goals as goal

pub loop-k-preserved : goal.loop-k-preserved
loop-k-preserved g c =
    let count = c.args.on.end - c.args.on.start in
    let rest = drop c.args.on.start c.args.rows.now in
    let inside : c.loop-k.k < count = omega (arith, c.loop-k-test.true, length-take count rest) in
    let here = get_or-take count rest c.loop-k.k no_row inside ∙ get_or-drop c.args.on.start c.args.rows.now c.loop-k.k no_row in
    let told = subst (λ (r : Row). FnReturnsAt g.F.Fn c.args.field r c.field.result) here (says_at g.F.Fn c.field.ensures refl) in
    (written_more c.loop-k.invariant.0 inside c.field.result told, simp length-set c.loop-k.invariant.1)

pub returns-clause-sorted : goal.returns-clause-sorted
returns-clause-sorted g c =
    let n = c.args.on.end - c.args.on.start in
    let rest = drop c.args.on.start c.args.rows.now in
    let walked = length-take-le n rest (simp length-drop (omega (arith, c.requires.room))) in
    let last : n ≤ c.loop-k.k = omega (arith, c.loop-k-test.false, walked) in
    let long = length-take-le n c.args.order.now (omega (arith, c.requires.room)) in
    let by-keys = rw long at c.sort.ensures in
    let sorted : length c.sort.new.order ≡ n = rw (by-keys, sort_length) (length_up_from 0 n) in
    let room : n ≤ length c.args.order.now = omega (arith, c.requires.room) in
    sorted_by c.loop-k.invariant.0 last (simp (length-append, length-drop) (omega arith)) (take_at c.sort.new.order (drop n c.args.order.now) n sorted ∙ by-keys)
