-- Where none of the eight bytes from `at` on ends the line, the end that is counted from behind them is the same.
use mathlib.Core.Path.{sym, ◌∙◌}
use native.Mathlib.Omega.{arith}
use Rattle.text.proofs.Bytes.{count_end, count_past}
use Rattle.text.proofs.line_end.Goals as goal

pub returns-then-bytes-from : goal.returns-then-bytes-from
returns-then-bytes-from c = let a = c.args in omega (arith, count_end 10 a.bytes.now a.from (omega arith))

pub loop-at-preserved : goal.loop-at-preserved
loop-at-preserved c = (
  omega arith,
  omega (
    arith,
    count_past 10 c.args.bytes.now c.loop-at.at 8 (omega arith)
        (sym c.ends_in_eight.ensures ∙ c.if-ends_in_eight.false),
  ),
)
