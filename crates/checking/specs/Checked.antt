-- What the check promises. Every name below is a definition of the meaning; `Limits` and `Answer` are its structs of plain numbers.
use Rattle.std.specs.Prelude.{◌≡◌, ◌↔◌, ℕ, length}
use mathlib.Core.List.{List, Permᴰ}
use Rattle.meaning.specs.declared.Limits.{Limits}
use Rattle.meaning.specs.declared.Answer.{Answer}
use Rattle.meaning.specs.Model.{Stack}
use Rattle.meaning.specs.Check.{answer, table_after}
use Rattle.meaning.specs.Feasible.{Feasible}
use Rattle.meaning.specs.Reorder.{Reordered}
use Rattle.meaning.specs.Claims.{Readable, ReadableInto, NoneOf1To8, TablePromise, AcceptedExactly, RefusedExactly, InOrder}

-- a check of two files within limits m that found the words table₀ in the lent table, left the words table there and answered a
pub record CheckPromise (m : Limits) (instance plan table₀ table : List ℕ) (a : Answer) : Type 0 where
  -- "The answer is number, three places, cost, used trucks": all six by the files and the table's length, refusals too
  pub answered : a ≡ answer m (length table₀) instance plan
  -- every word of the table, the words beyond the named ones too
  pub words : table ≡ table_after m table₀ instance plan
  -- demand 1, part by part: untouched, zero, or what the files say; words beyond untouched
  pub table_promise : TablePromise m instance plan table₀ table
  -- "A plan is readable when none of 1 to 8 arises": the number tells whether the table is long enough and both files can be read
  pub readable_exactly : ReadableInto m (length table₀) instance plan ↔ NoneOf1To8 a.number
  -- a readable plan has number 0 exactly when no rule lists a place, and then the cost and the used trucks
  pub accepted_exactly : (r : ReadableInto m (length table₀) instance plan) → AcceptedExactly r.files.says r.files.stacks a
  -- otherwise a rule is the first that lists one, and the answer is its number with its lowest place
  pub refused_exactly : (r : ReadableInto m (length table₀) instance plan) → RefusedExactly r.files.says r.files.stacks a
  -- a readable plan has number 0 exactly when it is feasible: when its picture holds, in document 01's word
  pub accepted_when_feasible : (r : ReadableInto m (length table₀) instance plan) → (a.number ≡ 0) ↔ Feasible r.files.says r.files.stacks
  -- a readable plan with its stacks in another order is readable and has this same answer
  pub order_free : Readable m instance plan → (plan' : List ℕ) → Reordered plan plan' → Readable m instance plan' × (answer m (length table₀) instance plan' ≡ a)
  -- and each order of the stacks that were read is that of such a plan
  pub any_order : (r : Readable m instance plan) (p' : List Stack) → Permᴰ r.stacks p' → InOrder m instance plan r.says p'
