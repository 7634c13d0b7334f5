-- Document 01, "After the check": the bad line, handed back as a part of the file that it stands in.
use Rattle.std.specs.Prelude.{cond, ◌||◌, List, [], ◌∷◌, ℕ, zero, suc, ◌+◌, ◌-◌, eqb, length, take, drop}
use Rattle.std.proofs.Math.Option.{Option, none, some}
use Rattle.meaning.specs.Text.{count_before}

-- the bytes from `start` up to `end`, which is not included
pub record Span : Type 0 where
  pub start : ℕ
  pub end : ℕ

-- a span by its two ends
abbrev pub span : ℕ → ℕ → Span
span a b = record { start = a; end = b }

-- line n, from 1, of bytes that begin at place `at` of their file, "without byte 10"; an unended line is there, and none follows the last byte
unfoldable pub line_span : ℕ → ℕ → List ℕ → Option Span
unfolding count_before
line_span zero at bs = none
line_span (suc n) at [] = none
line_span (suc zero) at (b ∷ bs) = some (span at (at + count_before 10 (b ∷ bs)))
line_span (suc (suc n)) at (b ∷ bs) = let past = suc (count_before 10 (b ∷ bs)) in line_span (suc n) (at + past) (drop past (b ∷ bs))

-- the two files
pub data File : Type 0 where
  in_instance : File
  in_plan : File

-- "that part of the file it stands in"
pub record Part : Type 0 where
  pub file : File
  pub span : Span

-- "the empty part at the instance's end" where there is no line
abbrev pub part_or : List ℕ → File → Option Span → Part
part_or instance file (some s) = record { file = file; span = s }
part_or instance file none = record { file = in_instance; span = span (length instance) (length instance) }

-- "instance for 4 and 5, plan for 7 and 8. Another number, or a line not there, gives the empty part"
unfoldable pub handed_back : List ℕ → List ℕ → ℕ → ℕ → Part
unfolding line_span
handed_back instance plan number line =
    cond (eqb number 4 || eqb number 5) (part_or instance in_instance (line_span line 0 instance))
    (cond (eqb number 7 || eqb number 8) (part_or instance in_plan (line_span line 0 plan))
    (part_or instance in_instance none))

-- the bytes of a part
abbrev pub span_bytes : List ℕ → Span → List ℕ
span_bytes bs s = take (s.end - s.start) (drop s.start bs)

-- the bytes of a part of the two files
abbrev pub part_bytes : List ℕ → List ℕ → Part → List ℕ
part_bytes instance plan q = elim q.file [ in_instance ↦ span_bytes instance q.span | in_plan ↦ span_bytes plan q.span ]
