-- Document 01, "Verdicts" 1 to 8 and "The working table": from the bytes of two files to the answer and to the words of the table.
use Rattle.std.specs.Prelude.{Bool, cond, not, ◌&&◌, ℕ, ltb, eqb, length, drop, replicate}
use Rattle.std.proofs.Math.Option.{Option, none, some}
use mathlib.Core.List.{List, ◌++◌, map, flat_map}
use Rattle.meaning.specs.declared.Limits.{Limits}
use Rattle.meaning.specs.declared.Place.{Place}
use Rattle.meaning.specs.declared.Answer.{Answer}
use Rattle.meaning.specs.Lists.{only_if, up_from, order_in, order_from}
use Rattle.meaning.specs.Limits.{named}
use Rattle.meaning.specs.Reader.{Outcome, found, wrong_form, out_of_range, whole_file}
use Rattle.meaning.specs.Model.{Instance, Stack, Item, item, IL, IW, IS}
use Rattle.meaning.specs.Files.{instance_lines, plan_lines}
use Rattle.meaning.specs.Table.{words}
use Rattle.meaning.specs.Places.{place, lowest}
use Rattle.meaning.specs.Verdict.{refusal, verdict_on}

-- ---- 6 code clash: "item differs in IL or IW from the lowest-numbered item of its code; item, that one"
-- the number of the first item with the code of item n
abbrev pub first_of_code : Instance → ℕ → ℕ
first_of_code i n = order_in (map IS i.items) (IS (item i n))

-- two items with the same IL and IW
abbrev pub same_length_and_width : Item → Item → Bool
same_length_and_width a b = eqb (IL a) (IL b) && eqb (IW a) (IW b)

-- (item, that one), for each item that differs
unfoldable pub code_clashes : Instance → List Place
unfolding flat_map up_from order_from
code_clashes i =
    flat_map (λ n. only_if (not (same_length_and_width (item i n) (item i (first_of_code i n)))) (place n (first_of_code i n) 0)) (up_from 1 (length i.items))

-- ---- what two files are read as: refused by one of 2 to 8, or "readable when none of 1 to 8 arises"
pub data Reading : Type 0 where
  refused : Answer → Reading
  readable : Instance → List Stack → Reading

-- a refusal with a line as its place
abbrev pub refused_at : ℕ → ℕ → Reading
refused_at n line = refused (refusal n (place line 0 0))

-- 7 plan form, 8 plan range
unfoldable pub after_plan : Instance → Outcome (List Stack) → Reading
after_plan i (found p n rest) = readable i p
after_plan i (wrong_form n) = refused_at 7 n
after_plan i (out_of_range n) = refused_at 8 n

-- 6, and where there is none the plan
unfoldable pub after_clash : Limits → Instance → List ℕ → Option Place → Reading
unfolding after_plan plan_lines whole_file
after_clash m i plan none = after_plan i (whole_file (plan_lines m i) plan)
after_clash m i plan (some q) = refused (refusal 6 q)

-- 4 instance form, 5 instance range
unfoldable pub after_instance : Limits → List ℕ → Outcome Instance → Reading
unfolding after_clash code_clashes lowest
after_instance m plan (found i n rest) = after_clash m i plan (lowest (code_clashes i))
after_instance m plan (wrong_form n) = refused_at 4 n
after_instance m plan (out_of_range n) = refused_at 5 n

-- 2, 3 overlong: "instance, plan above its bytes"; "1..3 read nothing"
unfoldable pub read_files : Limits → List ℕ → List ℕ → Reading
unfolding after_instance instance_lines whole_file
read_files m instance plan =
    cond (ltb m.bytes (length instance)) (refused_at 2 0)
    (cond (ltb m.bytes (length plan)) (refused_at 3 0)
    (after_instance m plan (whole_file (instance_lines m) instance)))

-- ---- the answer
unfoldable pub answer_to : Reading → Answer
unfolding verdict_on
answer_to (refused a) = a
answer_to (readable i p) = verdict_on i p

-- the answer of a check with a table of so many words; 1 short table: "under 8,976 words"
unfoldable pub answer : Limits → ℕ → List ℕ → List ℕ → Answer
unfolding read_files answer_to
answer m tableLength instance plan = cond (ltb tableLength (named m)) (refusal 1 (place 0 0 0)) (answer_to (read_files m instance plan))

-- ---- the table afterwards
-- "2..8 zero its named words"
unfoldable pub named_after : Limits → Reading → List ℕ
unfolding words
named_after m (refused a) = replicate (named m) 0
named_after m (readable i p) = words m i p

-- "1 leaves the table"; words beyond the named ones stay
unfoldable pub table_after : Limits → List ℕ → List ℕ → List ℕ → List ℕ
unfolding read_files named_after
table_after m table instance plan =
    cond (ltb (length table) (named m)) table (named_after m (read_files m instance plan) ++ drop (named m) table)
