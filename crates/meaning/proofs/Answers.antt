-- The answers to the load of document 01, its ten edits and the worked cases, by computation.
use mathlib.Core.Path.{◌≡◌, refl}
use mathlib.Core.List.{[], ◌∷◌, ◌++◌, map}
use Prim.Native.Nat.{◌+◌, ◌*◌}
use lib.IntN.{pos}
use lib.ListN.{take, replicate}
use Rattle.meaning.specs.Limits.{small}
use Rattle.meaning.specs.Text.{bytes, comma_parts}
use Rattle.meaning.specs.Measures.{H}
use Rattle.meaning.specs.Table.{largest_word, truck_place, dock_count, stack_place, load_first, load_count}
use Rattle.meaning.specs.Check.{read_files, answer, table_after}
use Rattle.meaning.specs.Write.{write_files, written, instance_after, plan_after}
use Rattle.meaning.specs.Claims.{instance_most, plan_most}
use Rattle.meaning.specs.BadLine.{in_instance, in_plan, handed_back}
use Rattle.meaning.specs.Print.{comma_joined}
use Rattle.meaning.specs.Example.{lines, file_of, AsExpected, example_instance, example_plan, ten_edits, read_h}
use Rattle.meaning.specs.ExampleRules.{uneven_instance, uneven_plan, rule_cases, rule_pairs, clash_cases}
use Rattle.meaning.specs.ExampleContacts.{contact_instance, contact_plan, contact_cases}
use Rattle.meaning.specs.Examples.{reading_cases, example_part, example_bytes, gap_part, Run, words_there, uneven_words, close, uneven_table, Change, answered_change, changes}

-- ---- the ten edits, and H
pub ten_edits_lem : AsExpected example_instance example_plan ten_edits
unfolding answer comma_parts comma_joined
ten_edits_lem = refl

pub H_example : read_h (read_files small (file_of example_instance) (file_of example_plan)) ≡ pos 50120000
unfolding read_files H
H_example = refl

-- ---- the rules, one by one and two at once; contacts; reading
pub rule_cases_lem : AsExpected uneven_instance uneven_plan rule_cases
unfolding answer comma_parts comma_joined
rule_cases_lem = refl

pub rule_pairs_lem : AsExpected uneven_instance uneven_plan rule_pairs
unfolding answer comma_parts comma_joined
rule_pairs_lem = refl

pub contact_cases_lem : AsExpected contact_instance contact_plan contact_cases
unfolding answer comma_parts comma_joined
contact_cases_lem = refl

pub clash_cases_lem : AsExpected uneven_instance uneven_plan clash_cases
unfolding answer comma_parts comma_joined
clash_cases_lem = refl

pub reading_cases_lem : AsExpected example_instance example_plan reading_cases
unfolding answer comma_parts comma_joined
reading_cases_lem = refl

-- ---- unended lines and lines too many, short table, overlong files, an empty plan
-- bytes behind the instance and behind the plan, unended; an ended line behind the instance; a last line that is not ended
pub left_over :
    answer small 8976 (file_of example_instance ++ bytes "left") (file_of example_plan)
    ∷ answer small 8976 (file_of example_instance) (file_of example_plan ++ bytes "left")
    ∷ answer small 8976 (file_of (example_instance ++ lines ("" ∷ []))) (file_of example_plan)
    ∷ answer small 8976 (file_of example_instance) (file_of (lines ("stacks=1" ∷ "stack=1,1,0,0,0,1" ∷ [])) ++ bytes "load=1,2")
    ∷ []
    ≡ record { number = 4; first = 13; second = 0; third = 0; cost = 0; trucks = 0 }
    ∷ record { number = 7; first = 4; second = 0; third = 0; cost = 0; trucks = 0 }
    ∷ record { number = 4; first = 13; second = 0; third = 0; cost = 0; trucks = 0 }
    ∷ record { number = 7; first = 3; second = 0; third = 0; cost = 0; trucks = 0 }
    ∷ []
unfolding answer
left_over = refl

-- one word too few
pub short_table : answer small 8975 (file_of example_instance) (file_of example_plan) ≡ record { number = 1; first = 0; second = 0; third = 0; cost = 0; trucks = 0 }
unfolding answer
short_table = refl

-- an instance of 65,536 bytes, before an overlong plan
pub overlong_instance : answer small 8976 (replicate 65536 0) (replicate 65536 0) ≡ record { number = 2; first = 0; second = 0; third = 0; cost = 0; trucks = 0 }
unfolding answer
overlong_instance = refl

-- a plan of 65,536 bytes, before an instance that is not in form
pub overlong_plan : answer small 8976 (replicate 65535 0) (replicate 65536 0) ≡ record { number = 3; first = 0; second = 0; third = 0; cost = 0; trucks = 0 }
unfolding answer
overlong_plan = refl

-- a plan of 65,535 bytes is not too long
pub longest_plan : answer small 8976 [] (replicate 65535 0) ≡ record { number = 4; first = 1; second = 0; third = 0; cost = 0; trucks = 0 }
unfolding answer
longest_plan = refl

-- a plan without stacks leaves the first item out
pub no_stacks : answer small 8976 (file_of example_instance) (file_of (lines ("stacks=0" ∷ []))) ≡ record { number = 9; first = 1; second = 0; third = 0; cost = 0; trucks = 0 }
unfolding answer
no_stacks = refl

-- ---- the line handed back: line 3 of the instance and of the plan, the unended line, other numbers, lines that are not there
pub bad_lines :
    example_part 5 3 ∷ example_part 8 3 ∷ example_part 7 4 ∷ example_part 3 3 ∷ example_part 6 3 ∷ example_part 9 3 ∷ example_part 4 13 ∷ example_part 7 0 ∷ []
    ≡ record { file = in_instance; span = record { start = 24; end = 33 } }
    ∷ record { file = in_plan; span = record { start = 27; end = 35 } }
    ∷ record { file = in_plan; span = record { start = 36; end = 40 } }
    ∷ record { file = in_instance; span = record { start = 291; end = 291 } }
    ∷ record { file = in_instance; span = record { start = 291; end = 291 } }
    ∷ record { file = in_instance; span = record { start = 291; end = 291 } }
    ∷ record { file = in_instance; span = record { start = 291; end = 291 } }
    ∷ record { file = in_instance; span = record { start = 291; end = 291 } }
    ∷ []
unfolding handed_back
bad_lines = refl

-- their bytes
pub bad_line_bytes :
    example_bytes (example_part 4 3) ∷ example_bytes (example_part 7 3) ∷ example_bytes (example_part 8 4) ∷ example_bytes (example_part 0 1) ∷ []
    ≡ bytes "extra=200" ∷ bytes "load=1,2" ∷ bytes "left" ∷ [] ∷ []
unfolding handed_back
bad_line_bytes = refl

-- an empty line in the middle of either file: that line, and the one after it
pub empty_lines :
    gap_part 4 5 ∷ gap_part 4 6 ∷ gap_part 7 2 ∷ gap_part 7 3 ∷ []
    ≡ record { file = in_instance; span = record { start = 42; end = 42 } }
    ∷ record { file = in_instance; span = record { start = 43; end = 89 } }
    ∷ record { file = in_plan; span = record { start = 9; end = 9 } }
    ∷ record { file = in_plan; span = record { start = 10; end = 18 } }
    ∷ []
unfolding handed_back
empty_lines = refl

-- ---- the table afterwards
-- the uneven load
pub uneven_table_lem :
    map (words_there (table_after small (replicate 8977 5) (file_of uneven_instance) (file_of uneven_plan))) uneven_words
    ≡ map (λ (r : Run). r.words) uneven_words
unfolding table_after
uneven_table_lem = refl

-- where some words are looked up, in a table with words at 4336, 6686 and 6687: truck 2, the dock count of its third supplier, the second stack, its
-- first load index and its load count
pub places_looked_up :
    (let table = replicate 4336 0 ++ 3 ∷ replicate 2349 0 ++ 4 ∷ 5 ∷ [] in
    truck_place small 2 ∷ dock_count small table 2 2 ∷ stack_place small 1 ∷ load_first small table 1 ∷ load_count small table 1 ∷ [])
    ≡ 4272 ∷ 3 ∷ 6680 ∷ 4 ∷ 5 ∷ []
places_looked_up = refl

-- files that cannot be read zero the named words
pub zeroed_table : table_after small (replicate 8977 5) [] [] ≡ replicate 8976 0 ++ 5 ∷ []
unfolding table_after
zeroed_table = refl

-- a short table is left as it is
pub short_table_left : table_after small (replicate 8975 5) (file_of example_instance) (file_of example_plan) ≡ replicate 8975 5
unfolding table_after
short_table_left = refl

-- "32-bit unsigned words": the largest is one below 2 to the 32nd
pub largest_word_lem : largest_word + 1 ≡ 65536 * 65536
largest_word_lem = refl

-- ---- files written back
pub table_changes : map answered_change changes ≡ map (λ (c : Change). c.answer) changes
unfolding table_after write_files written
table_changes = refl

-- one byte too few in either buffer, and in both; then a short table
pub short_buffers :
    map written (
    write_files close uneven_table 1999 2000 ∷ write_files close uneven_table 2000 1999 ∷ write_files small [] 65534 0 ∷ write_files small [] 65535 65535 ∷ []
    )
    ≡ record { number = 29; instance_length = 0; plan_length = 0 }
    ∷ record { number = 29; instance_length = 0; plan_length = 0 }
    ∷ record { number = 29; instance_length = 0; plan_length = 0 }
    ∷ record { number = 30; instance_length = 0; plan_length = 0 }
    ∷ []
unfolding write_files written table_after
short_buffers = refl

-- the load of document 01, checked and written out into buffers of 65,536 bytes: the lengths, and the files with what stood behind them
pub example_written :
    written (write_files small (table_after small (replicate 8976 5) (file_of example_instance) (file_of example_plan)) 65536 65535)
    ≡ record { number = 0; instance_length = 291; plan_length = 36 }
unfolding write_files written table_after
example_written = refl

pub example_buffers :
    (let table = table_after small (replicate 8976 5) (file_of example_instance) (file_of example_plan) in
    let w = write_files small table 65535 65535 in
    take 294 (instance_after w (replicate 300 7)) ∷ plan_after w (replicate 38 7) ∷ [])
    ≡ (file_of example_instance ++ 7 ∷ 7 ∷ 7 ∷ []) ∷ (file_of example_plan ++ 7 ∷ 7 ∷ []) ∷ []
unfolding write_files instance_after plan_after table_after
example_buffers = refl

-- how long the files can be
pub most_bytes : instance_most small ∷ plan_most small ∷ [] ≡ 52373 ∷ 22546 ∷ []
most_bytes = refl
