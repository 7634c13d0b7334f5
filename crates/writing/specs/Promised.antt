-- What the writing call promises: every number that it answers and every byte of both buffers, by the table's words.
use Rattle.std.specs.Prelude.{◌≡◌, List, ℕ, length}
use Rattle.meaning.specs.declared.Limits.{Limits}
use Rattle.meaning.specs.declared.Written.{Written}
use Rattle.meaning.specs.Write.{Writing, write_files, written, instance_after, plan_after}
use Rattle.meaning.specs.Claims.{WritingPromise}

-- what is written of a table into buffers of these bytes
abbrev pub writing_of : Limits → List ℕ → List ℕ → List ℕ → Writing
writing_of m table instance plan = write_files m table (length instance) (length plan)

-- a writing that found the bytes instance₀ and plan₀ in the buffers, left instance and plan, and answered r
pub record WritePromise (m : Limits) (table instance₀ plan₀ instance plan : List ℕ) (r : Written) : Type 0 where
  -- the number and both lengths
  pub answered : r ≡ written (writing_of m table instance₀ plan₀)
  -- every byte of both buffers
  pub instance_bytes : instance ≡ instance_after (writing_of m table instance₀ plan₀) instance₀
  pub plan_bytes : plan ≡ plan_after (writing_of m table instance₀ plan₀) plan₀
  -- the same in the words of document 02: 29 and 30 exactly when, the same bytes, the same words, lengths, what a refusal leaves
  pub promise : WritingPromise m table instance₀ plan₀ instance plan r
