-- Worked cases of reading, of the line handed back, of the working table and of the files written back. They are computed in proofs/Answers.
use Rattle.std.specs.Prelude.{List, [], ◌∷◌, ◌++◌, ℕ, ◌+◌, length, take, drop, set, replicate}
use Rattle.meaning.specs.declared.Limits.{Limits}
use Rattle.meaning.specs.Limits.{items_at, trucks_at, stacks_at, loads_at, named}
use Rattle.meaning.specs.Text.{bytes}
use Rattle.meaning.specs.Check.{table_after}
use Rattle.meaning.specs.Write.{write_files, written}
use Rattle.meaning.specs.BadLine.{Part, handed_back, part_bytes}
use Rattle.meaning.specs.Example.{Lines, file_of, entry, line, Case, edits, edited, example_instance, example_plan}
use Rattle.meaning.specs.ExampleRules.{uneven_instance, uneven_plan}

-- ---- reading, on the load of document 01
abbrev pub reading_cases : List Case
reading_cases =
    -- each kind of line with a key that is not its own
    edits (line 1 "Transport=2" ∷ []) [] (record { number = 4; first = 1; second = 0; third = 0; cost = 0; trucks = 0 })
    ∷ edits (line 2 "inventory3" ∷ []) [] (record { number = 4; first = 2; second = 0; third = 0; cost = 0; trucks = 0 })
    ∷ edits (line 3 "extra:200" ∷ []) [] (record { number = 4; first = 3; second = 0; third = 0; cost = 0; trucks = 0 })
    ∷ edits (line 4 "item=2" ∷ []) [] (record { number = 4; first = 4; second = 0; third = 0; cost = 0; trucks = 0 })
    ∷ edits (line 5 " trucks=1" ∷ []) [] (record { number = 4; first = 5; second = 0; third = 0; cost = 0; trucks = 0 })
    ∷ edits (entry 6 1 "items=1200" ∷ []) [] (record { number = 4; first = 6; second = 0; third = 0; cost = 0; trucks = 0 })
    ∷ edits (entry 8 1 "trucks=13000" ∷ []) [] (record { number = 4; first = 8; second = 0; third = 0; cost = 0; trucks = 0 })
    ∷ edits (line 9 "product=1" ∷ []) [] (record { number = 4; first = 9; second = 0; third = 0; cost = 0; trucks = 0 })
    ∷ edits (line 10 "=1" ∷ []) [] (record { number = 4; first = 10; second = 0; third = 0; cost = 0; trucks = 0 })
    ∷ edits (line 11 "plantdocks=1" ∷ []) [] (record { number = 4; first = 11; second = 0; third = 0; cost = 0; trucks = 0 })
    ∷ edits (line 12 "docks=1" ∷ []) [] (record { number = 4; first = 12; second = 0; third = 0; cost = 0; trucks = 0 })
    ∷ edits [] (line 1 "stack=1" ∷ []) (record { number = 7; first = 1; second = 0; third = 0; cost = 0; trucks = 0 })
    ∷ edits [] (entry 2 1 "stacks=1" ∷ []) (record { number = 7; first = 2; second = 0; third = 0; cost = 0; trucks = 0 })
    ∷ edits [] (line 3 "loads=1,2" ∷ []) (record { number = 7; first = 3; second = 0; third = 0; cost = 0; trucks = 0 })
    -- what a number is not: nothing, a needless zero, eleven digits, the bytes before 0 and after 9, nothing between commas; 0 alone is a number
    ∷ edits (line 4 "items=" ∷ []) [] (record { number = 4; first = 4; second = 0; third = 0; cost = 0; trucks = 0 })
    ∷ edits (line 4 "items=02" ∷ []) [] (record { number = 4; first = 4; second = 0; third = 0; cost = 0; trucks = 0 })
    ∷ edits (line 4 "items=20000000000" ∷ []) [] (record { number = 4; first = 4; second = 0; third = 0; cost = 0; trucks = 0 })
    ∷ edits (line 4 "items=2/" ∷ []) [] (record { number = 4; first = 4; second = 0; third = 0; cost = 0; trucks = 0 })
    ∷ edits (line 4 "items=2:" ∷ []) [] (record { number = 4; first = 4; second = 0; third = 0; cost = 0; trucks = 0 })
    ∷ edits [] (line 3 "load=1,,2" ∷ []) (record { number = 7; first = 3; second = 0; third = 0; cost = 0; trucks = 0 })
    ∷ edits [] (line 3 "load=1,2," ∷ []) (record { number = 7; first = 3; second = 0; third = 0; cost = 0; trucks = 0 })
    ∷ edits (line 2 "inventory=0" ∷ []) [] (record { number = 0; first = 0; second = 0; third = 0; cost = 200000; trucks = 1 })
    -- a range, also beyond 32 bits
    ∷ edits (line 4 "items=0" ∷ []) [] (record { number = 5; first = 4; second = 0; third = 0; cost = 0; trucks = 0 })
    ∷ edits (line 4 "items=4294967298" ∷ []) [] (record { number = 5; first = 4; second = 0; third = 0; cost = 0; trucks = 0 })
    -- counts of entries: one; 16 and 20; 1 to 32, 1 to 8; 6; 1 to 64. With eight suppliers it is the second docks= line that is not there
    ∷ edits (line 5 "trucks=1,1" ∷ []) [] (record { number = 4; first = 5; second = 0; third = 0; cost = 0; trucks = 0 })
    ∷ edits (line 6 "item=1200,800,1000,0,500,1,3,1,0,2,5,1,1,1,1" ∷ []) [] (record { number = 4; first = 6; second = 0; third = 0; cost = 0; trucks = 0 })
    ∷ edits (entry 6 16 "4,4" ∷ []) [] (record { number = 4; first = 6; second = 0; third = 0; cost = 0; trucks = 0 })
    ∷ edits (line 8 "truck=13000,2400,2700,24000,1,3,1000,0,1500,100,7000,3800,1000,3000,7000,7500,2500,1500,24000" ∷ []) []
    (record { number = 4; first = 8; second = 0; third = 0; cost = 0; trucks = 0 })
    ∷ edits (entry 8 20 "12000,1" ∷ []) [] (record { number = 4; first = 8; second = 0; third = 0; cost = 0; trucks = 0 })
    ∷ edits (line 9 "products=" ∷ []) [] (record { number = 4; first = 9; second = 0; third = 0; cost = 0; trucks = 0 })
    ∷ edits (line 9 "products=1,2,3,4,5,6,7,8,9,10,11,12,13,14,15,16,17,18,19,20,21,22,23,24,25,26,27,28,29,30,31,32" ∷ []) []
    (record { number = 0; first = 0; second = 0; third = 0; cost = 248000; trucks = 1 })
    ∷ edits (line 9 "products=1,2,3,4,5,6,7,8,9,10,11,12,13,14,15,16,17,18,19,20,21,22,23,24,25,26,27,28,29,30,31,32,33" ∷ []) []
    (record { number = 4; first = 9; second = 0; third = 0; cost = 0; trucks = 0 })
    ∷ edits (line 10 "suppliers=1,2,3,4,5,6,7,8" ∷ []) [] (record { number = 4; first = 12; second = 0; third = 0; cost = 0; trucks = 0 })
    ∷ edits (line 10 "suppliers=1,2,3,4,5,6,7,8,9" ∷ []) [] (record { number = 4; first = 10; second = 0; third = 0; cost = 0; trucks = 0 })
    ∷ edits (line 11 "docks=1,2,3,4,5,6,7,8" ∷ []) [] (record { number = 0; first = 0; second = 0; third = 0; cost = 248000; trucks = 1 })
    ∷ edits (line 11 "docks=1,2,3,4,5,6,7,8,9" ∷ []) [] (record { number = 4; first = 11; second = 0; third = 0; cost = 0; trucks = 0 })
    ∷ edits (line 12 "plantdocks=1,2,3,4,5,6,7,8" ∷ []) [] (record { number = 0; first = 0; second = 0; third = 0; cost = 248000; trucks = 1 })
    ∷ edits (line 12 "plantdocks=1,2,3,4,5,6,7,8,9" ∷ []) [] (record { number = 4; first = 12; second = 0; third = 0; cost = 0; trucks = 0 })
    ∷ edits [] (line 1 "stacks=1,1" ∷ []) (record { number = 7; first = 1; second = 0; third = 0; cost = 0; trucks = 0 })
    ∷ edits [] (line 2 "stack=1,1,0,0,0" ∷ []) (record { number = 7; first = 2; second = 0; third = 0; cost = 0; trucks = 0 })
    ∷ edits [] (entry 2 6 "1,1" ∷ []) (record { number = 7; first = 2; second = 0; third = 0; cost = 0; trucks = 0 })
    ∷ edits [] (line 3 "load=" ∷ []) (record { number = 7; first = 3; second = 0; third = 0; cost = 0; trucks = 0 })
    ∷ edits [] (line 3 "load=1,1,1,1,1,1,1,1,1,1,1,1,1,1,1,1,1,1,1,1,1,1,1,1,1,1,1,1,1,1,1,1,1,1,1,1,1,1,1,1,1,1,1,1,1,1,1,1,1,1,1,1,1,1,1,1,1,1,1,1,1,1,1,1" ∷ [])
    (record { number = 9; first = 1; second = 64; third = 0; cost = 0; trucks = 0 })
    ∷ edits [] (line 3 "load=1,1,1,1,1,1,1,1,1,1,1,1,1,1,1,1,1,1,1,1,1,1,1,1,1,1,1,1,1,1,1,1,1,1,1,1,1,1,1,1,1,1,1,1,1,1,1,1,1,1,1,1,1,1,1,1,1,1,1,1,1,1,1,1,1" ∷ [])
    (record { number = 7; first = 3; second = 0; third = 0; cost = 0; trucks = 0 })
    -- a repeat where distinct is required
    ∷ edits (line 9 "products=1,2,1" ∷ []) [] (record { number = 5; first = 9; second = 0; third = 0; cost = 0; trucks = 0 })
    ∷ edits (line 10 "suppliers=1,1" ∷ []) [] (record { number = 5; first = 10; second = 0; third = 0; cost = 0; trucks = 0 })
    ∷ edits (line 11 "docks=2,1,2" ∷ []) [] (record { number = 5; first = 11; second = 0; third = 0; cost = 0; trucks = 0 })
    ∷ edits (line 12 "plantdocks=1,1" ∷ []) [] (record { number = 5; first = 12; second = 0; third = 0; cost = 0; trucks = 0 })
    -- numbers of trucks and items above the count and 0; copy; orientation
    ∷ edits [] (entry 2 2 "2" ∷ []) (record { number = 8; first = 2; second = 0; third = 0; cost = 0; trucks = 0 })
    ∷ edits [] (entry 2 2 "0" ∷ []) (record { number = 8; first = 2; second = 0; third = 0; cost = 0; trucks = 0 })
    ∷ edits [] (line 3 "load=1,3" ∷ []) (record { number = 8; first = 3; second = 0; third = 0; cost = 0; trucks = 0 })
    ∷ edits [] (line 3 "load=0,1" ∷ []) (record { number = 8; first = 3; second = 0; third = 0; cost = 0; trucks = 0 })
    ∷ edits [] (entry 2 3 "100" ∷ []) (record { number = 8; first = 2; second = 0; third = 0; cost = 0; trucks = 0 })
    ∷ edits [] (entry 2 6 "0" ∷ []) (record { number = 8; first = 2; second = 0; third = 0; cost = 0; trucks = 0 })
    ∷ edits [] (entry 2 6 "3" ∷ []) (record { number = 8; first = 2; second = 0; third = 0; cost = 0; trucks = 0 })
    -- a missing line is one after those present; a line of another kind; the first line too many
    ∷ edits (line 5 "trucks=2" ∷ []) [] (record { number = 4; first = 13; second = 0; third = 0; cost = 0; trucks = 0 })
    ∷ edits [] (line 1 "stacks=2" ∷ []) (record { number = 7; first = 4; second = 0; third = 0; cost = 0; trucks = 0 })
    ∷ edits (line 4 "items=1" ∷ []) [] (record { number = 4; first = 7; second = 0; third = 0; cost = 0; trucks = 0 })
    ∷ edits (line 4 "items=3" ∷ []) [] (record { number = 4; first = 8; second = 0; third = 0; cost = 0; trucks = 0 })
    ∷ edits [] (line 1 "stacks=0" ∷ []) (record { number = 7; first = 2; second = 0; third = 0; cost = 0; trucks = 0 })
    -- form before range in one line; the first bad line; the instance before the plan, 6 between them
    ∷ edits (line 6 "item=0,800,1000,0,500,1,3,1,0,2,5,1,1,1,1" ∷ []) [] (record { number = 4; first = 6; second = 0; third = 0; cost = 0; trucks = 0 })
    ∷ edits (line 1 "transport=1001" ∷ line 2 "inventory" ∷ []) [] (record { number = 5; first = 1; second = 0; third = 0; cost = 0; trucks = 0 })
    ∷ edits [] (entry 2 6 "3" ∷ line 3 "load" ∷ []) (record { number = 8; first = 2; second = 0; third = 0; cost = 0; trucks = 0 })
    ∷ edits (line 12 "plantdocks=0" ∷ []) (line 1 "stacks" ∷ []) (record { number = 5; first = 12; second = 0; third = 0; cost = 0; trucks = 0 })
    ∷ edits (entry 7 2 "799" ∷ []) (line 1 "stacks" ∷ []) (record { number = 6; first = 2; second = 1; third = 0; cost = 0; trucks = 0 })
    ∷ []

-- ---- the line handed back
-- the part for a number and a line, with an unended line behind the plan
abbrev pub part_for : Lines → Lines → ℕ → ℕ → Part
part_for instance plan number n = handed_back (file_of instance) (file_of plan ++ bytes "left") number n

-- the load of document 01
abbrev pub example_part : ℕ → ℕ → Part
example_part number n = part_for example_instance example_plan number n

-- the same with an empty line in the middle of either file
abbrev pub gap_part : ℕ → ℕ → Part
gap_part number n = part_for (edited (line 5 "") example_instance) (edited (line 2 "") example_plan) number n

-- what stands there
abbrev pub example_bytes : Part → List ℕ
example_bytes q = part_bytes (file_of example_instance) (file_of example_plan ++ bytes "left") q

-- ---- words of a table
-- words that stand one behind the other, from a place on
pub record Run : Type 0 where
  pub from : ℕ
  pub words : List ℕ

-- what a table has in the place of a run
abbrev pub words_there : List ℕ → Run → List ℕ
words_there table r = take (length r.words) (drop r.from table)

-- the uneven load, by the places that document 01 names; 5 stood in every word before
abbrev pub uneven_words : List Run
uneven_words =
    -- head: αT, αI, αE, items, trucks, stacks, and a spare word; the word before the items
    record { from = 0; words = 7 ∷ 3 ∷ 250 ∷ 8 ∷ 2 ∷ 5 ∷ 0 ∷ [] }
    ∷ record { from = 15; words = 0 ∷ [] }
    -- the first two items and the last, with the word behind it
    ∷ record { from = 16; words = 1400 ∷ 760 ∷ 860 ∷ 20 ∷ 480 ∷ 72 ∷ 5 ∷ 216 ∷ 0 ∷ 16 ∷ 31 ∷ 83 ∷ 91 ∷ 52 ∷ 37 ∷ 8 ∷ [] }
    ∷ record { from = 32; words = 1250 ∷ 800 ∷ 600 ∷ 60 ∷ 260 ∷ 71 ∷ 3 ∷ 213 ∷ 1 ∷ 20 ∷ 30 ∷ 83 ∷ 95 ∷ 57 ∷ 36 ∷ 9 ∷ [] }
    ∷ record { from = 128; words = 1250 ∷ 800 ∷ 640 ∷ 90 ∷ 350 ∷ 71 ∷ 2 ∷ 212 ∷ 0 ∷ 11 ∷ 27 ∷ 83 ∷ 95 ∷ 57 ∷ 38 ∷ 11 ∷ 0 ∷ [] }
    -- truck 1: its fields; product count and products; supplier count and suppliers; dock counts; docks of each supplier; plant dock count and plant docks
    ∷ record { from = 4112; words = 5200 ∷ 2300 ∷ 1900 ∷ 530 ∷ 86 ∷ 23 ∷ 450 ∷ 0 ∷ 1100 ∷ 130 ∷ 6110 ∷ 3640 ∷ 1130 ∷ 2860 ∷ 3950 ∷ 4350 ∷ 2980 ∷ 1240 ∷ 1163 ∷ 4503 ∷ [] }
    ∷ record { from = 4132; words = 2 ∷ 214 ∷ 219 ∷ 0 ∷ [] }
    ∷ record { from = 4164; words = 0 ∷ 2 ∷ 52 ∷ 57 ∷ 0 ∷ [] }
    ∷ record { from = 4174; words = 2 ∷ 2 ∷ 0 ∷ [] }
    ∷ record { from = 4182; words = 31 ∷ 39 ∷ 0 ∷ [] }
    ∷ record { from = 4190; words = 38 ∷ 32 ∷ 0 ∷ [] }
    ∷ record { from = 4245; words = 0 ∷ 2 ∷ 95 ∷ 97 ∷ 0 ∷ [] }
    -- truck 2: its fields; product count and products; supplier count and suppliers; dock counts; docks of each supplier; plant dock count and plant docks
    ∷ record { from = 4272; words = 3450 ∷ 1980 ∷ 1695 ∷ 2060 ∷ 83 ∷ 20 ∷ 570 ∷ 1 ∷ 990 ∷ 170 ∷ 5240 ∷ 3260 ∷ 930 ∷ 2530 ∷ 3060 ∷ 1870 ∷ 1390 ∷ 620 ∷ 1750 ∷ 5400 ∷ [] }
    ∷ record { from = 4292; words = 7 ∷ 213 ∷ 215 ∷ 211 ∷ 217 ∷ 212 ∷ 216 ∷ 218 ∷ 0 ∷ [] }
    ∷ record { from = 4324; words = 0 ∷ 4 ∷ 54 ∷ 51 ∷ 57 ∷ 52 ∷ 0 ∷ [] }
    ∷ record { from = 4334; words = 2 ∷ 1 ∷ 3 ∷ 2 ∷ 0 ∷ [] }
    ∷ record { from = 4342; words = 33 ∷ 36 ∷ 0 ∷ [] }
    ∷ record { from = 4350; words = 34 ∷ 0 ∷ [] }
    ∷ record { from = 4358; words = 36 ∷ 35 ∷ 38 ∷ 0 ∷ [] }
    ∷ record { from = 4366; words = 35 ∷ 37 ∷ 0 ∷ [] }
    ∷ record { from = 4405; words = 0 ∷ 4 ∷ 93 ∷ 92 ∷ 95 ∷ 91 ∷ 0 ∷ [] }
    -- the word behind the trucks; each stack with its first load index and load count; the word behind them
    ∷ record { from = 4432; words = 0 ∷ [] }
    ∷ record { from = 6672; words = 31 ∷ 2 ∷ 5 ∷ 0 ∷ 30 ∷ 1 ∷ 0 ∷ 3 ∷ [] }
    ∷ record { from = 6680; words = 12 ∷ 2 ∷ 5 ∷ 1250 ∷ 730 ∷ 2 ∷ 3 ∷ 2 ∷ [] }
    ∷ record { from = 6688; words = 40 ∷ 2 ∷ 5 ∷ 2050 ∷ 70 ∷ 1 ∷ 5 ∷ 1 ∷ [] }
    ∷ record { from = 6696; words = 25 ∷ 2 ∷ 0 ∷ 0 ∷ 200 ∷ 2 ∷ 6 ∷ 1 ∷ [] }
    ∷ record { from = 6704; words = 17 ∷ 1 ∷ 0 ∷ 0 ∷ 60 ∷ 1 ∷ 7 ∷ 1 ∷ [] }
    ∷ record { from = 6712; words = 0 ∷ [] }
    -- the word before the loads, the loads, the word behind them; the last named word and the word beyond, which stays
    ∷ record { from = 8719; words = 0 ∷ 6 ∷ 2 ∷ 4 ∷ 8 ∷ 3 ∷ 1 ∷ 7 ∷ 5 ∷ 0 ∷ [] }
    ∷ record { from = 8975; words = 0 ∷ 5 ∷ [] }
    ∷ []

-- ---- files written back
-- limits with room for one item, truck, stack and load entry more than the uneven load has
abbrev pub close : Limits
close = record { items = 9; trucks = 3; stacks = 6; loads = 9; bytes = 2000 }

-- the table of the uneven load, with a word beyond
abbrev pub uneven_table : List ℕ
uneven_table = table_after close (replicate (named close + 1) 5) (file_of uneven_instance) (file_of uneven_plan)

-- a word of the table changed, and the number that writing then answers
pub record Change : Type 0 where
  pub at : ℕ
  pub word : ℕ
  pub answer : ℕ

-- a change by its place, the word and the answer
abbrev pub change : ℕ → ℕ → ℕ → Change
change at word answer = record { at = at; word = word; answer = answer }

-- what is answered, for buffers just long enough
abbrev pub answered_change : Change → ℕ
answered_change c = (written (write_files close (set uneven_table c.at c.word) 2000 2000)).number

-- each way in which no readable pair of files fills a table, beside changes that one does
abbrev pub changes : List Change
changes =
    -- the head: αT in and out of its range; a spare word
    change 0 8 0
    ∷ change 0 1001 30
    ∷ change 6 1 30
    ∷ change 15 1 30
    -- counts of items, trucks and stacks, one too few and one too many
    ∷ change 3 7 30
    ∷ change 3 9 30
    ∷ change 4 1 30
    ∷ change 4 3 30
    ∷ change 5 4 30
    ∷ change 5 6 30
    -- items: IL of the only item of its code; IW that clashes; IH out of range; the word behind the last item
    ∷ change items_at 1401 0
    ∷ change (items_at + 17) 799 30
    ∷ change (items_at + 2) 0 30
    ∷ change (items_at + 128) 1 30
    -- a truck: TH in and out of range
    ∷ change (trucks_at close + 2) 1901 0
    ∷ change (trucks_at close + 2) 20001 30
    -- products: another; a repeat; one out of range; the count too low and too high; an entry behind the count
    ∷ change (trucks_at close + 21) 213 0
    ∷ change (trucks_at close + 21) 219 30
    ∷ change (trucks_at close + 21) 65536 30
    ∷ change (trucks_at close + 20) 1 30
    ∷ change (trucks_at close + 20) 3 30
    ∷ change (trucks_at close + 20) 33 30
    ∷ change (trucks_at close + 23) 1 30
    -- suppliers: one fewer, whose docks are then of a supplier that is not there; one more
    ∷ change (trucks_at close + 53) 1 30
    ∷ change (trucks_at close + 53) 3 30
    -- docks: a count at odds with its entries; the count and a dock of a supplier that is not there
    ∷ change (trucks_at close + 62) 1 30
    ∷ change (trucks_at close + 63) 3 30
    ∷ change (trucks_at close + 64) 1 30
    ∷ change (trucks_at close + 86) 1 30
    -- plant docks: none; the first and the last spare word; the first word of a truck that is not there
    ∷ change (trucks_at close + 134) 0 30
    ∷ change (trucks_at close + 143) 1 30
    ∷ change (trucks_at close + 159) 1 30
    ∷ change (trucks_at close + 320) 1 30
    -- stacks: another number, a repeated one; a truck that is not there; orientation
    ∷ change (stacks_at close + 8) 13 0
    ∷ change (stacks_at close + 8) 31 30
    ∷ change (stacks_at close + 9) 3 30
    ∷ change (stacks_at close + 13) 1 0
    ∷ change (stacks_at close + 13) 3 30
    -- the first load index is the running total; a load count at odds with it, none, and one too many; the word behind the stacks
    ∷ change (stacks_at close + 14) 2 30
    ∷ change (stacks_at close + 7) 2 30
    ∷ change (stacks_at close + 39) 0 30
    ∷ change (stacks_at close + 39) 2 30
    ∷ change (stacks_at close + 40) 1 30
    -- the loads: another item, one that is not there, none; the word behind them, which is the last; the word beyond the named ones
    ∷ change (loads_at close) 5 0
    ∷ change (loads_at close) 9 30
    ∷ change (loads_at close) 0 30
    ∷ change (loads_at close + 8) 1 30
    ∷ change (loads_at close + 9) 1 0
    ∷ []
