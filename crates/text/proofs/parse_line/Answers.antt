-- Where the line ends, whether it has the key, and the numbers of its value: what each callee says of them gives the answer.
use Rattle.std.proofs.Common.{◌∙◌}
use Rattle.text.specs.Words.{line_answer}
use Rattle.text.proofs.Lines.{unended, other_key, keyed_line}
use Rattle.text.proofs.parse_line.Goals as goal

pub returns-then-bytes-end : goal.returns-then-bytes-end
returns-then-bytes-end c =
    let a = c.args in
    let promised = unended a.key.now a.least a.out.now a.bytes.now a.at c.line_end-end.result c.line_end-end.ensures c.if-bytes-end.true in
    record { answer = promised.0; words = promised.1 }

pub returns-in_err-value : goal.returns-in_err-value
returns-in_err-value c =
    let a = c.args in
    let promised = other_key a.key.now a.least a.out.now a.bytes.now a.at c.line_end-end.result c.line_end-end.ensures c.if-bytes-end.false c.in_err-value.ensures in
    record { answer = c.from_residual.ensures ∙ promised.0; words = promised.1 }

pub returns-in_err-count : goal.returns-in_err-count
unfolding line_answer
returns-in_err-count c =
    let a = c.args in
    let promised = keyed_line a.key.now a.least a.out.now a.bytes.now a.at c.line_end-end.result c.line_end-end.ensures c.if-bytes-end.false _ c.parse_numbers.new.out c.in_ok-value.ensures _ c.in_err-count.ensures.answer c.parse_numbers.ensures.words in
    record { answer = c.from_residual-in_err-count.ensures ∙ promised.0; words = promised.1 }

pub returns : goal.returns
unfolding line_answer
returns c =
    let a = c.args in
    let promised = keyed_line a.key.now a.least a.out.now a.bytes.now a.at c.line_end-end.result c.line_end-end.ensures c.if-bytes-end.false _ c.parse_numbers.new.out c.in_ok-value.ensures _ c.in_ok-count.ensures.answer c.parse_numbers.ensures.words in
    record { answer = promised.0; words = promised.1 }
