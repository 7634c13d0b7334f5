-- What is printed in a turn is what the text has up to the next mark, and the number for it.
use Rattle.std.proofs.Common.{lit<, refl, rules}
use Rattle.std.proofs.lemmas.Str.Pattern.{split_parts}
use Rattle.std.proofs.lemmas.Result.{on_ok_weaker}
use Rattle.sentence.proofs.Marks.{printed, printed_whole, cut_mark, cut_bare_mark, filled_bare}
use Rattle.sentence.proofs.print_filled.Goals as goal

pub loop-before-preserved-in_ok-write-2 : goal.loop-before-preserved-in_ok-write-2
loop-before-preserved-in_ok-write-2 g c =
    let parts = rw c.in-Some.is at (split_parts 35 c.loop-before.rest.now c.split_once.result c.split_once.ensures.cases (lit< tt)) in
    let whole = cut_mark c.loop-before.rest.now c.in-Some.before.now c.in-Some.after.now parts.0 parts.1
    c.loop-before.left.rest.now c.next.new.self.rest.now c.in-Some-next.number.now (search rules) in
    record {
      text = search rules;
      printed = printed _ _ _ _ _ _ _ refl
          (printed _ _ _ _ _ _ _ whole c.loop-before.invariant.printed c.in_ok-write.ensures.bytes) c.in_ok-write-2.ensures.bytes;
    }

pub loop-before-preserved : goal.loop-before-preserved
loop-before-preserved g c =
    let parts = rw c.in-Some.is at (split_parts 35 c.loop-before.rest.now c.split_once.result c.split_once.ensures.cases (lit< tt)) in
    let whole = cut_bare_mark c.loop-before.rest.now c.in-Some.before.now c.in-Some.after.now parts.0 parts.1
    c.loop-before.left.rest.now c.next.new.self.rest.now c.in_default-next.ensures.steps.0 (search rules) in
    record {
      text = search rules;
      printed = printed _ _ _ _ _ _ _ whole c.loop-before.invariant.printed c.in_ok-write.ensures.bytes;
    }

pub returns : goal.returns
returns g c =
    let bare = rw c.in_default.is at (split_parts 35 c.loop-before.rest.now c.split_once.result c.split_once.ensures.cases (lit< tt)) in
    let same = filled_bare c.loop-before.rest.now c.loop-before.left.rest.now bare in
    on_ok_weaker _ (printed_whole _ _ _ _ _ (rw same at c.loop-before.invariant.printed)) c.write-2.ensures.bytes
