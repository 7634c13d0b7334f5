-- Behind the parts that were asked one after another, the last two decide.
use mathlib.Core.Path.{ap, ap₂, ◌∙◌}
use mathlib.Core.Bool.{◌&&◌}
use Rattle.std.proofs.lemmas.List.{take_rest}
use Rattle.stored.specs.Parts.{zeros, truck_stored}
use Rattle.stored.proofs.Scan.{test_passed}
use Rattle.stored.proofs.truck_stored.Goals as goal

pub returns : goal.returns
unfolding truck_stored
returns c =
    test_passed c.truck_in_range.ensures c.if-not-truck_in_range.false
    (test_passed c.entries_stored.ensures c.if-not-entries_stored.false
    (test_passed c.entries_stored-2.ensures c.if-not-entries_stored-2.false
    (test_passed c.docks_stored.ensures c.if-not-docks_stored.false
    (ap₂ ◌&&◌ c.entries_stored-3.ensures (c.are_zero.ensures ∙ ap zeros (take_rest c.args.words.now 143))))))
