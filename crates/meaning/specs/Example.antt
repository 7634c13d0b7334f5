-- Document 01, "One load from end to end": that load with its ten edits, the statement that all lists of cases share, and H.
use Rattle.std.specs.Prelude.{◌≡◌, List, [], ◌∷◌, ◌++◌, map, ℕ, ◌-◌, ℤ, pos, set, get_or}
use Prim.Native.String.{String}
use Rattle.meaning.specs.declared.Answer.{Answer}
use Rattle.meaning.specs.Limits.{small}
use Rattle.meaning.specs.Text.{bytes, comma_parts}
use Rattle.meaning.specs.Model.{truck_numbered}
use Rattle.meaning.specs.Measures.{H}
use Rattle.meaning.specs.Check.{Reading, refused, readable, answer}
use Rattle.meaning.specs.Reorder.{ended}
use Rattle.meaning.specs.Print.{comma_joined}

-- ---- the load of document 01
-- the lines of a file, without their bytes 10
abbrev pub Lines : Type 0
Lines = List (List ℕ)

-- lines from their texts
abbrev pub lines : List String → Lines
lines texts = map bytes texts

-- the file of some lines
abbrev pub file_of : Lines → List ℕ
file_of [] = []
file_of (l ∷ ls) = ended l ++ file_of ls

-- its instance
abbrev pub example_instance : Lines
example_instance =
    lines (
    "transport=2"
    ∷ "inventory=3"
    ∷ "extra=200"
    ∷ "items=2"
    ∷ "trucks=1"
    ∷ "item=1200,800,1000,0,500,1,3,1,0,2,5,1,1,1,1,4"
    ∷ "item=1200,800,1000,100,400,1,3,1,0,2,5,1,1,1,1,4"
    ∷ "truck=13000,2400,2700,24000,1,3,1000,0,1500,100,7000,3800,1000,3000,7000,7500,2500,1500,24000,12000"
    ∷ "products=1"
    ∷ "suppliers=1"
    ∷ "docks=1"
    ∷ "plantdocks=1"
    ∷ []
    )

-- its plan
abbrev pub example_plan : Lines
example_plan = lines ("stacks=1" ∷ "stack=1,1,0,0,0,1" ∷ "load=1,2" ∷ [])

-- ---- edits
-- a change of a file: entry k of line n, both from 1, where the first entry has the key before it; or the whole line n
pub data Edit : Type 0 where
  entry : ℕ → ℕ → String → Edit
  line : ℕ → String → Edit

-- the lines after an edit
abbrev pub edited : Edit → Lines → Lines
edited (entry n k text) ls = set ls (n - 1) (comma_joined (set (comma_parts (get_or ls (n - 1) [])) (k - 1) (bytes text)))
edited (line n text) ls = set ls (n - 1) (bytes text)

-- the lines after several edits
abbrev pub edited_by : List Edit → Lines → Lines
edited_by [] ls = ls
edited_by (e ∷ es) ls = edited_by es (edited e ls)

-- a case: the edits of the instance, those of the plan, and the answer
pub record Case : Type 0 where
  pub to_instance : List Edit
  pub to_plan : List Edit
  pub expected : Answer

-- a case by its edits and its answer
abbrev pub edits : List Edit → List Edit → Answer → Case
edits to_instance to_plan a = record { to_instance = to_instance; to_plan = to_plan; expected = a }

-- what the check answers, for a table of 8,976 words
abbrev pub answered : Lines → Lines → Case → Answer
answered instance plan c = answer small 8976 (file_of (edited_by c.to_instance instance)) (file_of (edited_by c.to_plan plan))

-- each case has the answer that it expects: the statement that all lists of cases share. The answers are written out, six numbers each
abbrev pub AsExpected : Lines → Lines → List Case → Type 0
AsExpected instance plan cases = map (answered instance plan) cases ≡ map (λ (c : Case). c.expected) cases

-- entries of the truck's line, line 8 of the instance, and of the stack's, line 2 of the plan: height of the truck
abbrev pub set_TH : String → Edit
set_TH v = entry 8 3 v

-- density limit
abbrev pub set_TEM : String → Edit
set_TEM v = entry 8 9 v

-- limit of the rear axle
abbrev pub set_EMmr : String → Edit
set_EMmr v = entry 8 19 v

-- limit of the middle axle
abbrev pub set_EMmm : String → Edit
set_EMmm v = entry 8 20 v

-- copy of the stack
abbrev pub set_copy : String → Edit
set_copy v = entry 2 3 v

-- x of the stack
abbrev pub set_x : String → Edit
set_x v = entry 2 4 v

-- the load itself, and "Proved as a block, ten edits" (proofs/Answers: ten_edits_lem)
abbrev pub ten_edits : List Case
ten_edits =
    edits [] [] (record { number = 0; first = 0; second = 0; third = 0; cost = 248000; trucks = 1 })
    ∷ edits [] (set_copy "1" ∷ []) (record { number = 0; first = 0; second = 0; third = 0; cost = 288000; trucks = 1 })
    ∷ edits (set_EMmm "4480" ∷ []) [] (record { number = 0; first = 0; second = 0; third = 0; cost = 248000; trucks = 1 })
    ∷ edits (set_EMmm "4479" ∷ []) [] (record { number = 27; first = 1; second = 0; third = 1; cost = 0; trucks = 0 })
    ∷ edits (set_EMmr "4559" ∷ []) [] (record { number = 0; first = 0; second = 0; third = 0; cost = 248000; trucks = 1 })
    ∷ edits (set_EMmr "4558" ∷ []) [] (record { number = 28; first = 1; second = 0; third = 1; cost = 0; trucks = 0 })
    ∷ edits (set_TEM "938" ∷ []) [] (record { number = 0; first = 0; second = 0; third = 0; cost = 248000; trucks = 1 })
    ∷ edits (set_TEM "937" ∷ []) [] (record { number = 21; first = 1; second = 900; third = 0; cost = 0; trucks = 0 })
    ∷ edits (set_TH "1899" ∷ []) [] (record { number = 22; first = 1; second = 3; third = 0; cost = 0; trucks = 0 })
    ∷ edits [] (set_x "1" ∷ []) (record { number = 24; first = 1; second = 0; third = 0; cost = 0; trucks = 0 })
    ∷ edits [] (line 3 "load=1" ∷ []) (record { number = 9; first = 2; second = 0; third = 0; cost = 0; trucks = 0 })
    ∷ []

-- ---- "H is 50,120,000" (proofs/Answers: H_example)
-- H of the plan that was read, on truck 1
abbrev pub read_h : Reading → ℤ
read_h (refused a) = pos 0
read_h (readable i p) = H i (truck_numbered i 1) p
