-- Document 01, "After the check": the line that is handed back is the one at which the reading of its file stopped.
use Rattle.std.specs.Prelude.{◌≡◌, ℕ, ◌+◌, ◌≤◌, length, take}
use mathlib.Core.List.{List, [], ◌++◌, flat_map}
use Rattle.meaning.specs.declared.Limits.{Limits}
use Rattle.meaning.specs.declared.Answer.{Answer}
use Rattle.meaning.specs.Lists.{Every}
use Rattle.meaning.specs.Text.{count_before}
use Rattle.meaning.specs.Reader.{Outcome, found, wrong_form, out_of_range, Reader, whole_file}
use Rattle.meaning.specs.Model.{Instance}
use Rattle.meaning.specs.Files.{instance_lines, plan_lines}
use Rattle.meaning.specs.Check.{answer}
use Rattle.meaning.specs.BadLine.{span, File, in_instance, in_plan, Part, handed_back, part_bytes}
use Rattle.meaning.specs.Reorder.{ended, OneLine}

-- ---- "4/5 and 7/8 go to the first bad line, form before range"
-- what is wrong with a line
pub data Fault : Type 0 where
  form : Fault
  range : Fault

-- "instance form, range" are 4 and 5, "plan form, range" are 7 and 8
abbrev pub fault_number : File → Fault → ℕ
fault_number in_instance form = 4
fault_number in_instance range = 5
fault_number in_plan form = 7
fault_number in_plan range = 8

-- the outcome of a reader that stops at line n
abbrev pub stopping : {A : Type 0} → Fault → ℕ → Outcome A
stopping form n = wrong_form n
stopping range n = out_of_range n

-- the line that a reader has come to: the bad line, or the next one where something is found
abbrev pub line_reached : {A : Type 0} → Outcome A → ℕ
line_reached (found a n rest) = n
line_reached (wrong_form n) = n
line_reached (out_of_range n) = n

-- ---- the line at which a reader stopped
-- line n of bytes whose first line has the number `from`: the lines before it, and the bytes from it on, which are none where it is not there
pub record AtLine (from : ℕ) (bs : List ℕ) (n : ℕ) : Type 0 where
  pub before : List (List ℕ)
  pub rest : List ℕ
  pub one_lines : Every OneLine before
  pub joined : bs ≡ flat_map ended before ++ rest
  pub count : n ≡ from + length before

-- the lines before line n, and then other bytes
abbrev pub continued : {from n : ℕ} {bs : List ℕ} → AtLine from bs n → List ℕ → List ℕ
continued line others = flat_map ended line.before ++ others

-- line n is the first bad line of these bytes
pub record StoppedAt {A : Type 0} (w : Fault) (read : List ℕ → Outcome A) (from : ℕ) (bs : List ℕ) (n : ℕ) : Type 0 where
  pub outcome : read bs ≡ stopping w n
  pub line : AtLine from bs n
  -- no line before it is bad: whatever follows those lines, the reader comes to line n, and the outcome is not yet decided
  pub passed : (others : List ℕ) → n ≤ line_reached (read (continued line others))
  pub undecided : (others : List ℕ) × (read (continued line others) ≡ stopping w n → ⊥)
  -- the line itself is bad: where it is ended, the reader stops at it whatever follows
  pub bad : (l tail : List ℕ) → OneLine l → line.rest ≡ ended l ++ tail → (others : List ℕ) → read (continued line (ended l ++ others)) ≡ stopping w n
  -- wrong form covers "an unended line, a missing line"
  pub unended : OneLine line.rest → w ≡ form

-- ---- what is handed back
-- the bytes of one of the two files
abbrev pub file_bytes : List ℕ → List ℕ → File → List ℕ
file_bytes instance plan in_instance = instance
file_bytes instance plan in_plan = plan

-- the part of a file that begins at `start` and is so many bytes long
abbrev pub part_from : File → ℕ → ℕ → Part
part_from f start size = record { file = f; span = span start (start + size) }

-- a part of the two files is line n of file f
pub record IsLine (instance plan : List ℕ) (f : File) {n : ℕ} (line : AtLine 1 (file_bytes instance plan f) n) (q : Part) : Type 0 where
  -- "that part of the file it stands in": it begins behind the lines before it
  pub there : (line.rest ≡ [] → ⊥) → q ≡ part_from f (length (flat_map ended line.before)) (count_before 10 line.rest)
  -- "the bad line without byte 10"
  pub bytes : part_bytes instance plan q ≡ take (count_before 10 line.rest) line.rest
  -- "a line not there, gives the empty part at the instance's end"
  pub missing : line.rest ≡ [] → q ≡ part_from in_instance (length instance) 0

-- reader r stopped in file f at the answer's line, "from 1", and that line is handed back for the answer's number and line
pub record RefusedAt {A : Type 0} (w : Fault) (r : Reader A) (f : File) (instance plan : List ℕ) (a : Answer) : Type 0 where
  pub stopped : StoppedAt w (whole_file r) 1 (file_bytes instance plan f) a.first
  pub handed : IsLine instance plan f stopped.line (handed_back instance plan a.number a.first)

-- the same of the plan, for the instance that was read
pub record PlanRefusedAt (w : Fault) (m : Limits) (instance plan : List ℕ) (a : Answer) : Type 0 where
  pub says : Instance
  pub next : ℕ
  pub read : whole_file (instance_lines m) instance ≡ found says next []
  pub refused : RefusedAt w (plan_lines m says) in_plan instance plan a

-- of each file
abbrev pub RefusedLine : File → Fault → Limits → List ℕ → List ℕ → Answer → Type 0
RefusedLine in_instance w m instance plan a = RefusedAt w (instance_lines m) in_instance instance plan a
RefusedLine in_plan w m instance plan a = PlanRefusedAt w m instance plan a

-- the line handed back for an answer is the line that was refused: "instance for 4 and 5, plan for 7 and 8"
abbrev pub HandedBackRefused : Limits → Type 0
HandedBackRefused m =
    (tableLength : ℕ) (instance plan : List ℕ) (f : File) (w : Fault)
    → (answer m tableLength instance plan).number ≡ fault_number f w → RefusedLine f w m instance plan (answer m tableLength instance plan)
