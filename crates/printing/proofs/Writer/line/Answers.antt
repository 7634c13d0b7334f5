-- `printing::Writer::line`: the numbers from place `i` on are still to be written.
use mathlib.Core.Path.{◌≡◌, refl, sym, ap, ◌∙◌}
use mathlib.Core.List.{[], ◌∷◌}
use Prim.Native.Nat.{ℕ, ◌+◌}
use native.Mathlib.Omega.{arith}
use lib.ListN.{get_or, drop}
use Rattle.meaning.specs.Print.{digits}
use Rattle.printing.proofs.Progress.{onward_start, onward_room, onward_next, onward_end}
use Rattle.printing.proofs.Line.{separator, separated, line_is, next_number, number_behind, no_number, behind_last, behind_other}
use Rattle.printing.proofs.Writer.line.Goals as goal
use Rattle.printing.proofs.Writer.line.Goals.{then-i-numbers, else-i-numbers}

pub text-requires : goal.text-requires
text-requires c =
    onward_room (onward_start c.requires.1) c.args.key.now _ (line_is c.args.key.now c.args.numbers.now c.requires.0)

pub loop-i-init : goal.loop-i-init
loop-i-init c =
    onward_next (onward_start c.requires.1) c.text.ensures (line_is c.args.key.now c.args.numbers.now c.requires.0)

pub number-requires : goal.number-requires
number-requires c =
    let list = c.args.numbers.now in
    onward_room c.loop-i.invariant (digits (get_or list c.loop-i.i 0)) _ (next_number list c.loop-i.i c.loop-i-test.true)

pub byte-requires : goal.byte-requires
byte-requires c =
    let list = c.args.numbers.now in
    let o = number_behind list c.loop-i.i c.loop-i-test.true c.loop-i.invariant c.number.ensures in
    record { fits = (onward_room o (separator (drop (c.loop-i.i + 1) list) ∷ []) _ refl).fits }

pub loop-i-preserved : goal.loop-i-preserved
loop-i-preserved c =
    let list = c.args.numbers.now in
    let o = number_behind list c.loop-i.i c.loop-i-test.true c.loop-i.invariant c.number.ensures in
    let separator-is : c.if-i-numbers.separator ≡ separator (drop (c.loop-i.i + 1) list) =
    elim c.if-i-numbers.branch [
      | then-i-numbers w ↦ w.separator-is ∙ sym (behind_last list (c.loop-i.i + 1) (omega arith))
      | else-i-numbers w ↦ w.separator-is ∙ sym (behind_other list (c.loop-i.i + 1) (omega arith))
    ] in
    onward_next o c.byte.ensures (ap (λ (x : ℕ). x ∷ separated (drop (c.loop-i.i + 1) list)) (sym separator-is))

pub returns : goal.returns
returns c = onward_end c.loop-i.invariant (no_number c.args.numbers.now c.loop-i.i (omega arith))
