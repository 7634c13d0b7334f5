-- Document 02, F-1, "Listing back out": from a table to the two files, what is answered, and what the lent buffers then hold.
use Rattle.std.specs.Prelude.{Bool, false, cond, ◌&&◌, ◌||◌, List, ◌++◌, ℕ, leb, ltb, length, take, drop}
use Rattle.meaning.specs.declared.Limits.{Limits}
use Rattle.meaning.specs.declared.Written.{Written}
use Rattle.meaning.specs.Lists.{same_numbers}
use Rattle.meaning.specs.Limits.{named}
use Rattle.meaning.specs.Table.{words, instance_in, stacks_in}
use Rattle.meaning.specs.Check.{Reading, refused, readable, read_files}
use Rattle.meaning.specs.Print.{printed_instance, printed_plan}

-- the instance file and the plan file of the model that a table holds
abbrev pub instance_file : Limits → List ℕ → List ℕ
instance_file m t = printed_instance (instance_in m t)

abbrev pub plan_file : Limits → List ℕ → List ℕ
plan_file m t = printed_plan (stacks_in m t)

-- ---- "A table that is short, or that no readable pair of files fills, is turned down"
-- two files, by their reading, fill the named words with these
unfoldable pub fills_with : Limits → List ℕ → Reading → Bool
unfolding words same_numbers
fills_with m ws (refused a) = false
fills_with m ws (readable i p) = same_numbers (words m i p) ws

-- the files of the model that the table holds can be read, and fill the named words with what stands there. No other two files could: that
-- this holds exactly when some readable pair fills the table is proved (StoredExactly)
unfoldable pub stored : Limits → List ℕ → Bool
unfolding read_files fills_with instance_in stacks_in printed_instance printed_plan
stored m t = leb (named m) (length t) && fills_with m (take (named m) t) (read_files m (instance_file m t) (plan_file m t))

-- ---- what is written
-- both files, or a refusal with its number
pub data Writing : Type 0 where
  turned_down : ℕ → Writing
  files : List ℕ → List ℕ → Writing

-- "29 for a buffer too short, then 30 for such a table"; each buffer is to have as many bytes as a file may have
unfoldable pub write_files : Limits → List ℕ → ℕ → ℕ → Writing
unfolding stored instance_in stacks_in printed_instance printed_plan
write_files m t instance_room plan_room =
    cond (ltb instance_room m.bytes || ltb plan_room m.bytes) (turned_down 29)
    (cond (stored m t) (files (instance_file m t) (plan_file m t)) (turned_down 30))

-- "Each file's length is returned"; "both lengths are then 0"
unfoldable pub written : Writing → Written
written (turned_down n) = record { number = n; instance_length = 0; plan_length = 0 }
written (files instance plan) = record { number = 0; instance_length = length instance; plan_length = length plan }

-- a file at the front of a buffer: "The bytes after the length are untouched"
abbrev pub over : List ℕ → List ℕ → List ℕ
over file buffer = file ++ drop (length file) buffer

-- what the buffers then hold; "both buffers untouched"
unfoldable pub instance_after : Writing → List ℕ → List ℕ
instance_after (turned_down n) buffer = buffer
instance_after (files instance plan) buffer = over instance buffer

-- the same of the plan
unfoldable pub plan_after : Writing → List ℕ → List ℕ
plan_after (turned_down n) buffer = buffer
plan_after (files instance plan) buffer = over plan buffer
