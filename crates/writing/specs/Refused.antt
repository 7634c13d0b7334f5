-- The refusals of the writing call by document 02's numbers, and what is answered.
use Rattle.std.specs.Prelude.{ℕ, Result, Ok, Err}
use Rattle.meaning.specs.declared.Written.{Written}
use Rattle.meaning.specs.Write.{turned_down, written}
use Rattle.writing.specs.declared.Refusal.{Refusal}
use Rattle.writing.specs.declared.Refusal.TheVariants.{ShortBuffer, UnfilledTable}

-- "29 for a buffer too short, then 30 for such a table"
abbrev pub number_of : Refusal → ℕ
number_of ShortBuffer = 29
number_of UnfilledTable = 30

-- the lengths that were written, or the number of a refusal
abbrev pub answer_of : Result Written Refusal → Written
answer_of (Ok lengths) = lengths
answer_of (Err refusal) = written (turned_down (number_of refusal))
