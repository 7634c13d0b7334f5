-- What the answers of this crate say, by document 01's numbers and places, and what the reading call promises.
use Rattle.std.specs.Prelude.{◌≡◌, cond, List, [], ℕ, ltb, length, Result, Ok, Err}
use Rattle.meaning.specs.declared.Limits.{Limits}
use Rattle.meaning.specs.declared.Answer.{Answer}
use Rattle.meaning.specs.Limits.{named}
use Rattle.meaning.specs.Model.{Instance, Stack}
use Rattle.meaning.specs.Table.{words, instance_in, stacks_in}
use Rattle.meaning.specs.Places.{place}
use Rattle.meaning.specs.Verdict.{refusal}
use Rattle.meaning.specs.Check.{Reading, refused, readable, read_files, named_after, table_after}
use Rattle.table.specs.Filled.{Filled}
use Rattle.lines.specs.declared.LineRefused.{LineRefused}
use Rattle.lines.specs.declared.LineRefused.TheVariants.{WrongForm, OutOfRange}
use Rattle.reading.specs.declared.Refusal.{Refusal}
use Rattle.reading.specs.declared.Refusal.TheVariants.{ShortTable, InstanceOverlong, PlanOverlong, InstanceForm, InstanceRange, CodeClash, PlanForm, PlanRange}

-- ---- the cases of an answer
-- document 01's number of a refusal
abbrev pub number_of : Refusal → ℕ
number_of ShortTable = 1
number_of InstanceOverlong = 2
number_of PlanOverlong = 3
number_of InstanceForm = 4
number_of InstanceRange = 5
number_of CodeClash = 6
number_of PlanForm = 7
number_of PlanRange = 8

-- the one of two refusals by which a line is refused: for its form, or for its ranges
abbrev pub refusal_by : LineRefused → Refusal → Refusal → Refusal
refusal_by (WrongForm n) form range = form
refusal_by (OutOfRange n) form range = range

-- refused with the answer, or readable, and then the rules decide
abbrev pub FilesRead : Type 0
FilesRead = Result (Unit {0}) Answer

-- a refusal by document 01's number and its places
abbrev pub refused_with : ℕ → ℕ → ℕ → FilesRead
refused_with number first second = Err (refusal number (place first second 0))

-- the answer for what the meaning reads
abbrev pub read_as : Reading → FilesRead
read_as (refused a) = Err a
read_as (readable i p) = Ok tt

-- ---- what filling the named words promises: the meaning's refusal; or the words of what was read
pub record FillPromise (m : Limits) (says : Reading) (r : FilesRead) (named : List ℕ) : Type 0 where
  pub answered : r ≡ read_as says
  pub holds : (i : Instance) (p : List Stack) → says ≡ readable i p → named ≡ words m i p

-- the named words hold an instance and no stack yet
pub record HoldsInstance (m : Limits) (t : List ℕ) : Type 0 where
  pub filled : Filled m t
  pub exactly : t ≡ words m (instance_in m t) []

-- ---- what reading into the named words promises: the meaning's refusal, and the words that the meaning leaves there
pub record NamedPromise (m : Limits) (says : Reading) (r : FilesRead) (named : List ℕ) : Type 0 where
  pub answered : r ≡ read_as says
  pub words : named ≡ named_after m says

-- ---- what the reading call promises
-- the answer of a call with a table of so many words; 1 short table
unfoldable pub expected : Limits → ℕ → List ℕ → List ℕ → FilesRead
unfolding read_files
expected m tableLength instance plan = cond (ltb tableLength (named m)) (refused_with 1 0 0) (read_as (read_files m instance plan))

-- number, places and every word of the table; and where both files are readable, the table holds the model that they say
pub record ReadPromise (m : Limits) (instance plan table₀ table : List ℕ) (r : FilesRead) : Type 0 where
  pub answered : r ≡ expected m (length table₀) instance plan
  pub words : table ≡ table_after m table₀ instance plan
  pub model : r ≡ Ok tt → read_files m instance plan ≡ readable (instance_in m table) (stacks_in m table)
  pub filled : r ≡ Ok tt → Filled m table
