-- What the whole table is, by the results of the tests of its parts, which are asked one after another.
use mathlib.Core.Path.{◌≡◌, sym, ap, ◌∙◌}
use mathlib.Core.Bool.{Bool, true, false}
use mathlib.Core.List.{List}
use Prim.Native.Nat.{ℕ, ◌≤◌, ◌<◌}
use native.Mathlib.Omega.{arith}
use lib.Dec.{leb}
use lib.ListN.{length, take}
use lib.Seq.{get_or-take}
use Rattle.meaning.specs.declared.Limits.{Limits}
use Rattle.meaning.specs.Limits.{named}
use Rattle.meaning.specs.Write.{stored}
use Rattle.meaning.proofs.Tests.{fails, le_reads}
use Rattle.stored.specs.Parts.{PrintRoom, CountsWithin}
use Rattle.stored.specs.Parts.{head_stored, instance_stored, plan_stored, whole_stored}
use Rattle.stored.proofs.Scan.{and_failed, and_passed, test_failed, test_passed}
use Rattle.stored.proofs.Parts.{head_reads}
use Rattle.stored.proofs.Whole.{whole_stored_lem}

-- ---- the table: its length, its head, the instance, the plan
module _ (m : Limits) (print : PrintRoom m) (t : List ℕ) where
  pub too_short : length t < named m → false ≡ stored m t
  unfolding whole_stored
  too_short h = and_failed _ (fails (leb (named m) (length t)) (λ e. absurd (omega (arith, h, (le_reads (named m) (length t)).0 e)))) ∙ whole_stored_lem m print t

  module _ (room : named m ≤ length t) {front : List ℕ} (here : front ≡ take 16 t) {head : Bool} (head_told : head ≡ head_stored m front) where
    of_head : head ≡ head_stored m (take 16 t)
    of_head = head_told ∙ ap (head_stored m) here

    long : leb (named m) (length t) ≡ true
    long = (le_reads (named m) (length t)).1 room

    pub head_unfit : head ≡ false → false ≡ stored m t
    unfolding whole_stored
    head_unfit e = and_passed long (test_failed _ of_head e) ∙ whole_stored_lem m print t

    module _ (head_fit : head ≡ true) where
      pub counted : CountsWithin m t
      counted =
          let within = ((head_reads m (take 16 t)).0 (sym of_head ∙ head_fit)).0 in
          record {
            items = rw (get_or-take 16 t 3 0 (omega arith)) at (within 3 (omega arith)).1;
            trucks = rw (get_or-take 16 t 4 0 (omega arith)) at (within 4 (omega arith)).1;
            stacks = rw (get_or-take 16 t 5 0 (omega arith)) at (within 5 (omega arith)).1;
          }

      module _ {instance : Bool} (told : instance ≡ instance_stored m t) where
        pub instance_unfit : instance ≡ false → false ≡ stored m t
        unfolding whole_stored
        instance_unfit e = and_passed long (test_passed of_head head_fit (test_failed _ told e)) ∙ whole_stored_lem m print t

        pub plan_left : instance ≡ true → {r : Bool} → r ≡ plan_stored m t → r ≡ stored m t
        unfolding whole_stored
        plan_left e said = and_passed long (test_passed of_head head_fit (test_passed told e said)) ∙ whole_stored_lem m print t

-- what a function cites that asks one part after another
pub ruleset parts_in_turn = (too_short, head_unfit, instance_unfit, plan_left)
