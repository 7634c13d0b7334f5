-- What an answer of a reading function says, as what the meaning's reader finds.
use Rattle.std.specs.Prelude.{◌≡◌, Bool, true, cond, List, ℕ, suc, ◌≤◌, ◌<◌, ltb, length, take, drop, Result, Ok, Err, IfOk}
use Rattle.std.specs.Borrow.{Bor}
use Prim.Native.String.{String}
use Prim.Native.Nat.{zero-le}
use Rattle.meaning.specs.Lists.{Every}
use Rattle.meaning.specs.Text.{Form, bytes}
use Rattle.meaning.specs.Reader.{Outcome, found, wrong_form, out_of_range, Reader, line}
use Rattle.meaning.specs.Table.{largest_word}
use Rattle.lines.specs.declared.cursor.Cursor.{Cursor}
use Rattle.lines.specs.declared.LineRefused.{LineRefused}
use Rattle.lines.specs.declared.LineRefused.TheVariants.{WrongForm, OutOfRange}
use Rattle.lines.specs.declared.Stored.{Stored}
use Rattle.lines.specs.declared.LineValue.{LineValue}

-- a key as text, for the contracts, which cannot name the library's type
abbrev pub Key : Type 0
Key = String

-- ---- how far a file is read. Lines are counted from 0 in the code and from 1 in document 01
-- the three cases that document 01 names: the next cursor, wrong form, out of range
abbrev pub Progress : Type 0
Progress = Result Cursor LineRefused

-- the start of a file: nothing is read yet
abbrev pub start_of : Bor (List ℕ) → Cursor
start_of file = record { file = file; at = 0; line = 0; within = (zero-le, zero-le) }

abbrev pub at_start : Bor (List ℕ) → Progress
at_start file = Ok (start_of file)

-- a refusal, as the meaning's reader tells it
abbrev pub outcome_of : {A : Type 0} → LineRefused → Outcome A
outcome_of (WrongForm n) = wrong_form (suc n)
outcome_of (OutOfRange n) = out_of_range (suc n)

-- how many lines stand before the refused one
abbrev pub lines_before : LineRefused → ℕ
lines_before (WrongForm n) = n
lines_before (OutOfRange n) = n

-- a value that was read up to there
abbrev pub reached : {A : Type 0} → A → Progress → Outcome A
reached a (Ok c) = found a (suc c.line) (drop c.at c.file.now)
reached a (Err e) = outcome_of e

-- what a reader finds from there on; a refusal stays as it is
abbrev pub resumed : {A : Type 0} → Progress → Reader A → Outcome A
resumed (Ok c) reader = reader (suc c.line) (drop c.at c.file.now)
resumed (Err e) reader = outcome_of e

-- no line was refused
abbrev pub Going : Progress → Type 0
Going (Ok c) = Unit {0}
Going (Err e) = ⊥

-- from p on the same file was read up to r: its cursor is in that file, and no more lines than the file has bytes stand before a line that is
-- refused there. A refusal that came in went out unchanged
abbrev pub Follows : Progress → Progress → Type 0
Follows (Ok c) (Ok d) = d.file.now ≡ c.file.now
Follows (Ok c) (Err e) = lines_before e ≤ length c.file.now
Follows (Err e) r = r ≡ Err e

-- at the end of a file of so many bytes: a further line is one too many, which is wrong form
abbrev pub ended_at : ℕ → ℕ → ℕ → Result (Unit {0}) LineRefused
ended_at size at line = cond (ltb at size) (Err (WrongForm line)) (Ok tt)

-- the same of the file that is read
abbrev pub ended_as : Progress → Progress
ended_as (Ok c) = cond (ltb c.at (length c.file.now)) (Err (WrongForm c.line)) (Ok c)
ended_as (Err e) = Err e

-- ---- a value that was read, with the cursor behind it, or a refusal
abbrev pub LineResult : Type 0 → Type 0
LineResult A = Result (LineValue Cursor A) LineRefused

-- how far the file is read then
abbrev pub progress_of : {A : Type 0} → LineResult A → Progress
progress_of (Ok f) = Ok f.next
progress_of (Err e) = Err e

-- what the meaning's reader finds
abbrev pub told : {A : Type 0} → LineResult A → Outcome A
told (Ok f) = reached f.value (Ok f.next)
told (Err e) = outcome_of e

-- ---- a line whose numbers are stored and not yet judged
abbrev pub StoredLine : Type 0
StoredLine = Result (Stored Cursor) LineRefused

-- how many they are, whatever the place behind them is
abbrev pub entries_of : {C : Type 0} → Result (Stored C) LineRefused → ℕ
entries_of (Ok s) = s.count
entries_of (Err e) = 0

-- the line was not refused
abbrev pub HasNumbers : StoredLine → Type 0
HasNumbers (Ok s) = Unit {0}
HasNumbers (Err e) = ⊥

-- after the range test: "form before range"
abbrev pub judged_as : {C : Type 0} → Result (Stored C) LineRefused → Bool → Result C LineRefused
judged_as (Ok s) ok = cond ok (Ok s.next) (Err (OutOfRange s.line))
judged_as (Err e) ok = Err e

-- the same with the number of entries
abbrev pub judged_entries_as : {C : Type 0} → Result (Stored C) LineRefused → Bool → Result (LineValue C ℕ) LineRefused
judged_entries_as (Ok s) ok = cond ok (Ok (record { value = s.count; next = s.next })) (Err (OutOfRange s.line))
judged_entries_as (Err e) ok = Err e

-- a form whose range test refuses the largest word, which stands for all numbers that do not fit
abbrev pub RefusesLargest : Form → Type 0
RefusesLargest f = (ns : List ℕ) → length ns ≤ f.most → f.fits ns ≡ true → Every (λ n. n < largest_word) ns

-- judged by a form's range test on its words, the line after p is what the form's reader finds
abbrev pub JudgedBy : Form → Progress → StoredLine → List ℕ → Type 0
JudgedBy f p r out = reached (take (entries_of r) out) (judged_as r (f.fits (take (entries_of r) out))) ≡ resumed p (line f)

-- what is promised of the line after p, whatever its form is. Its numbers stand in front, `least` of them at least, no more than there is
-- room for, and the words behind them are as they were
pub record StoredPromise (p : Progress) (key : List ℕ) (least : ℕ) (out₀ : List ℕ) (r : StoredLine) (out : List ℕ) : Type 0 where
  pub says : (f : Form) → bytes f.key ≡ key → f.least ≡ least → f.most ≡ length out₀ → RefusesLargest f → JudgedBy f p r out
  pub follows : (ok : Bool) → Follows p (judged_as r ok)
  pub room : entries_of r ≤ length out₀
  pub enough : HasNumbers r → least ≤ entries_of r
  pub behind : HasNumbers r → drop (entries_of r) out ≡ drop (entries_of r) out₀

-- ---- what every filling function promises: from p on the reader was followed up to r; where nothing was refused, `out` has the words
-- of what was read. After a refusal nothing is said of `out`, for the reading call clears all named words then
pub record ReadInto {A : Type 0} (reader : Reader A) (words : A → List ℕ) (p r : Progress) (out : List ℕ) : Type 0 where
  pub value : A
  pub says : reached value r ≡ resumed p reader
  pub holds : Going r → out ≡ words value
  pub follows : Follows p r

-- the same for the entries of a line, with their number
pub record ReadEntries (reader : Reader (List ℕ)) (words : List ℕ → List ℕ) (p : Progress) (r : LineResult ℕ) (out : List ℕ) : Type 0 where
  pub into : ReadInto reader words p (progress_of r) out
  pub count : IfOk r (λ f. f.value ≡ length into.value)
