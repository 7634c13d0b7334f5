-- The picture of the load of document 01 holds, and with the stack a millimetre off the wall it does not: neither side of the theorem is empty.
-- With an item left out it holds but for rule 9.
use mathlib.Core.Path.{◌≡◌, refl}
use mathlib.Core.Logic.{◌↔◌}
use mathlib.Core.List.{List, []}
use Prim.Native.Nat.{ℕ}
use native.Mathlib.Nat.{le_refl}
use native.Mathlib.Omega.{arith}
use Rattle.meaning.specs.Limits.{small, named}
use Rattle.meaning.specs.Text.{comma_parts}
use Rattle.meaning.specs.Model.{Instance, Stack}
use Rattle.meaning.specs.Rules.{loading_rules}
use Rattle.meaning.specs.Verdict.{first_broken}
use Rattle.meaning.specs.Check.{Reading, refused, readable, read_files, answer}
use Rattle.meaning.specs.Feasible.{LoadingFeasible, Feasible}
use Rattle.meaning.specs.Print.{comma_joined}
use Rattle.meaning.specs.Example.{Lines, file_of, line, edited, set_x, example_instance, example_plan}
use Rattle.meaning.specs.Claims.{ReadableInto}
use Rattle.meaning.proofs.Accepted.{kept_answer, loading_kept}
use Rattle.meaning.proofs.Feasible.{loading_kept_exactly_lem, accepted_when_feasible_lem}

-- what a reading says, where it says something
abbrev instance_of : Reading → Instance
instance_of (refused a) = record { αT = 0; αI = 0; αE = 0; items = []; trucks = [] }
instance_of (readable i p) = i

abbrev stacks_of : Reading → List Stack
stacks_of (refused a) = []
stacks_of (readable i p) = p

-- a plan for the instance of document 01
module _ (plan : Lines) where
  abbrev reading : Reading
  reading = read_files small (file_of example_instance) (file_of plan)

  abbrev says : Instance
  says = instance_of reading

  abbrev stacks : List Stack
  stacks = stacks_of reading

  -- with just enough words, one that can be read
  module _ (read : reading ≡ readable says stacks) where
    is_readable : ReadableInto small (named small) (file_of example_instance) (file_of plan)
    is_readable = record { room = le_refl (named small); files = record { says = says; stacks = stacks; read = read } }

    accepted : ((answer small (named small) (file_of example_instance) (file_of plan)).number ≡ 0) ↔ Feasible says stacks
    unfolding is_readable
    accepted = accepted_when_feasible_lem small (named small) (file_of example_instance) (file_of plan) is_readable

    loading : (first_broken loading_rules says stacks (kept_answer says stacks)).number ≡ 0 → LoadingFeasible says stacks
    unfolding is_readable
    loading e = (loading_kept_exactly_lem small (file_of example_instance) (file_of plan) is_readable.files).0 (loading_kept says stacks e)

pub example_feasible : Feasible (says example_plan) (stacks example_plan)
unfolding answer
example_feasible = (accepted example_plan refl).0 refl

-- its stack at x = 1
abbrev moved_plan : Lines
moved_plan = edited (set_x "1") example_plan

pub moved_infeasible : Feasible (says moved_plan) (stacks moved_plan) → ⊥
unfolding answer comma_parts comma_joined
moved_infeasible f = let e : ◌≡◌ {A = ℕ} 24 0 = (accepted moved_plan refl).1 f in omega (arith, e)

-- item 2 left out
abbrev partial_plan : Lines
partial_plan = edited (line 3 "load=1") example_plan

pub partial_loading : LoadingFeasible (says partial_plan) (stacks partial_plan)
unfolding answer loading_rules first_broken
partial_loading = loading partial_plan refl refl

pub partial_infeasible : Feasible (says partial_plan) (stacks partial_plan) → ⊥
unfolding answer
partial_infeasible f = let e : ◌≡◌ {A = ℕ} 9 0 = (accepted partial_plan refl).1 f in omega (arith, e)
