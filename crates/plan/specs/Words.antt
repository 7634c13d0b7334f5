-- The stacks and loads of a plan as they stand in the table, and the plan's lines for an instance of so many items and trucks.
use Rattle.std.specs.Borrow.{Bor}
use Rattle.std.specs.Prelude.{◌≡◌, List, [], ◌∷◌, ◌++◌, ℕ, ◌+◌, ◌*◌, ◌≤◌, length, take, drop, Ok, IfOk}
use Rattle.meaning.specs.declared.Limits.{Limits}
use Rattle.meaning.specs.Lists.{padded}
use Rattle.meaning.specs.Reader.{Reader, give, line, onward, ◌>>=◌, at_end}
use Rattle.meaning.specs.Files.{stack_line, load_line, stack_lines, number_line, ◌to◌}
use Rattle.meaning.specs.Model.{Stack}
use Rattle.meaning.specs.Table.{stack_words, load_entries}
use Rattle.ranges.specs.Ranges.{row_numbers}
use Rattle.lines.specs.declared.cursor.Cursor.{Cursor}
use Rattle.lines.specs.declared.LineValue.{LineValue}
use Rattle.lines.specs.Progress.{at_start, LineResult, progress_of, ReadInto}
use Rattle.plan.specs.declared.counts.Counts.{Counts}

-- xs with ys in the place of the words from `at` on
abbrev pub spliced : ℕ → List ℕ → List ℕ → List ℕ
spliced at ys xs = take at xs ++ (ys ++ drop (at + length ys) xs)

-- one `stack=` line with its `load=` line, behind others whose numbers are `earlier` and whose loads hold `loaded` entries
unfoldable pub one_stack : ℕ → ℕ → ℕ → List ℕ → ℕ → Reader Stack
unfolding onward line
one_stack most items trucks earlier loaded = do
  fields ← line (stack_line trucks earlier)
  load ← line (load_line most items loaded)
  give (record { fields = fields; load = load })

-- the part with the k-th stack in it
abbrev pub with_stack : Limits → ℕ → ℕ → List ℕ → Stack → List ℕ
with_stack m k loaded part s = spliced (8 * m.stacks + loaded) s.load (spliced (8 * k) (s.fields ++ (loaded ∷ length s.load ∷ [])) part)

-- what reading the k-th stack promises, where the loads before it hold so many entries: how many they hold then, for which there is room
pub record StackPromise (m : Limits) (counts : Counts) (k : ℕ) (before : LineValue Cursor ℕ) (r : LineResult ℕ) (part₀ part : List ℕ) : Type 0 where
  pub into : ReadInto (one_stack m.loads counts.items counts.trucks (row_numbers k part₀) before.value)
      (with_stack m k before.value part₀) (Ok before.next) (progress_of r) part
  pub loaded : IfOk r (λ f. f.value ≡ before.value + length into.value.load)
  pub within : IfOk r (λ f. f.value ≤ m.loads)

-- the words of a plan, from the first word of the stacks on
unfoldable pub plan_words : Limits → List Stack → List ℕ
unfolding stack_words load_entries
plan_words m p = padded (8 * m.stacks) (stack_words 0 p) ++ padded m.loads (load_entries p)

-- the whole file: "stacks= (0..256), then per stack", and no line behind them
unfoldable pub plan_file : Limits → ℕ → ℕ → Reader (List Stack)
unfolding onward number_line stack_lines at_end
plan_file m items trucks = do
  n ← number_line "stacks=" (0 to m.stacks)
  p ← stack_lines m.loads items trucks n [] 0
  at_end p

-- what reading the plan promises: the number of its stacks besides
pub record PlanPromise (m : Limits) (counts : Counts) (file : Bor (List ℕ)) (r : LineResult ℕ) (part : List ℕ) : Type 0 where
  pub into : ReadInto (plan_file m counts.items counts.trucks) (plan_words m) (at_start file) (progress_of r) part
  pub stacks : IfOk r (λ f. f.value ≡ length into.value)
