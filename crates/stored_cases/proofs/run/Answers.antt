-- A line that is read begins before the end of the cases, and the next one begins behind it.
use Rattle.std.proofs.Common.{◌≡◌, ℕ, ◌+◌, ◌<◌, Bool, true, false, cond, List, length, drop, length-drop, arith, refl, Option, Some, None}
use lib.Dec.{ltb}
use borrow.Author.Tests.{ltb-true}
use Rattle.meaning.specs.Text.{count_before}
use Rattle.text.specs.Words.{parsed_line, line_answer}
use Rattle.text.specs.declared.ParsedLine.{ParsedLine}
use Rattle.stored_cases.proofs.run.Goals as goal

behind : (at end length_left : ℕ) (found : Option ℕ) (line : ParsedLine) (inside : Bool) → ltb end length_left ≡ inside
    → Some line ≡ cond inside (line_answer (at + end) found) None → (at < line.next) × (0 < length_left)
unfolding line_answer
behind at end length_left (Some m) line true t e =
    let ends : line.next ≡ at + end + 1 = cc e in (omega arith, omega (arith, ltb-true end length_left t))
behind at end length_left None line true t e = absurd (cc)
behind at end length_left found line false t e = absurd (cc)

goes_on : (key : List ℕ) (least most at : ℕ) (bs : List ℕ) (line : ParsedLine) → Some line ≡ parsed_line key least most at bs
    → (at < line.next) × (0 < length bs)
unfolding parsed_line
goes_on key least most at bs line e = behind at (count_before 10 bs) (length bs) _ line _ refl e

pub loop-parsed-smaller : goal.loop-parsed-smaller
loop-parsed-smaller g c =
    let at : ℕ = c.loop-parsed.at in
    let later : (at < c.in-Some.parsed.next) × (0 < length (drop at c.args.cases.now)) =
    goes_on _ _ _ _ _ _ c.in-Some.ensures.answer in
    omega (arith, later.0, later.1, length-drop at c.args.cases.now)
