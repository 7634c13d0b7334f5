-- The digits passed are the number so far; with it in front, the rest of the part is the whole number. The loop is left where the part ends.
use Rattle.std.proofs.Common.{◌≡◌, arith, drop}
use Rattle.meaning.specs.Text.{count_before}
use Rattle.text.proofs.Bytes.{count_at, count_end}
use Rattle.text.proofs.Numbers.{one_passed, no_digit, eleventh, empty, needless, number_read, fitted}
use Rattle.text.proofs.parse_number.Goals as goal
use Rattle.text.proofs.parse_number.Goals.{else-loop-byte-test, then-loop-byte-test+then-not-is_ascii_digit+then-byte-eq44, else-digits-gt1-via-then-digits-gt1+else-bytes-eq48, else-digits-gt1-via-else-digits-gt1}

pub returns-then-not-is_ascii_digit : goal.returns-then-not-is_ascii_digit
returns-then-not-is_ascii_digit c =
    no_digit c.loop-byte.invariant.passed c.loop-byte-test.true (λ low high. omega (arith, c.if-not-is_ascii_digit.ensures.cases)) c.if-byte-eq44.false

pub returns-then-digits-eq-MOST_DIGITS : goal.returns-then-digits-eq-MOST_DIGITS
returns-then-digits-eq-MOST_DIGITS c =
    let digit = c.if-not-is_ascii_digit.ensures.cases in
    eleventh c.loop-byte.invariant.passed c.loop-byte-test.true (omega (arith, digit)) (omega (arith, digit)) (omega arith)

pub loop-byte-preserved : goal.loop-byte-preserved
loop-byte-preserved c = record {
  counted = omega arith;
  passed =
      let digit = c.if-not-is_ascii_digit.ensures.cases in
      let room = c.loop-byte.invariant.passed.few in
      rw c.from.ensures (one_passed c.loop-byte.invariant.passed c.loop-byte-test.true (omega (arith, digit)) (omega (arith, digit)) (omega (arith, room)));
}

pub returns-then-digits-eq0 : goal.returns-then-digits-eq0
returns-then-digits-eq0 c =
    let ended : count_before 44 (drop c.loop-byte.byte-index c.args.bytes.now) ≡ 0 =
    elim c.loop-byte-test.branch [
      | else-loop-byte-test w ↦ count_end 44 c.args.bytes.now c.loop-byte.byte-index w.loop-byte-test.false
      | then-loop-byte-test+then-not-is_ascii_digit+then-byte-eq44 w ↦ (count_at 44 c.args.bytes.now c.loop-byte.byte-index w.loop-byte-test.true).0 w.if-byte-eq44.true
    ] in
    empty c.loop-byte.invariant.passed ended (omega arith)

pub returns-then-bytes-eq48 : goal.returns-then-bytes-eq48
returns-then-bytes-eq48 c =
    let ended : count_before 44 (drop c.loop-byte.byte-index c.args.bytes.now) ≡ 0 =
    elim c.loop-byte-test.branch [
      | else-loop-byte-test w ↦ count_end 44 c.args.bytes.now c.loop-byte.byte-index w.loop-byte-test.false
      | then-loop-byte-test+then-not-is_ascii_digit+then-byte-eq44 w ↦ (count_at 44 c.args.bytes.now c.loop-byte.byte-index w.loop-byte-test.true).0 w.if-byte-eq44.true
    ] in
    needless c.loop-byte.invariant.passed ended (omega arith) (omega arith)

pub returns : goal.returns
returns c =
    let ended : count_before 44 (drop c.loop-byte.byte-index c.args.bytes.now) ≡ 0 =
    elim c.loop-byte-test.branch [
      | else-loop-byte-test w ↦ count_end 44 c.args.bytes.now c.loop-byte.byte-index w.loop-byte-test.false
      | then-loop-byte-test+then-not-is_ascii_digit+then-byte-eq44 w ↦ (count_at 44 c.args.bytes.now c.loop-byte.byte-index w.loop-byte-test.true).0 w.if-byte-eq44.true
    ] in
    rw (c.unwrap_or-as_word.ensures, fitted c.loop-byte.n c.try_from.result c.try_from.ensures, c.loop-byte.invariant.counted)
    (number_read c.loop-byte.invariant.passed ended (omega arith)
    (elim c.else-digits-gt1.branch [
      | else-digits-gt1-via-then-digits-gt1+else-bytes-eq48 w ↦ λ h e. omega arith
      | else-digits-gt1-via-else-digits-gt1 w ↦ λ h e. omega arith
    ]))
