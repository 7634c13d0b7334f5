-- A plan is readable exactly when none of 1 to 8 is answered, and then the answer is the verdict on what was read.
use mathlib.Core.Path.{◌≡◌, refl}
use mathlib.Core.Logic.{⊎_elim}
use mathlib.Core.Bool.{Bool, true, false}
use mathlib.Core.List.{List}
use Prim.Native.Nat.{ℕ, ◌≤◌}
use native.Mathlib.Omega.{arith}
use borrow.Author.Tests.{le-ltb, ltb-false}
use lib.Dec.{ltb}
use Rattle.meaning.specs.declared.Limits.{Limits}
use Rattle.meaning.specs.Limits.{named}
use Rattle.meaning.specs.Verdict.{verdict_on}
use Rattle.meaning.specs.Check.{Reading, refused, readable, read_files, answer_to, answer}
use Rattle.meaning.specs.Claims.{ReadableInto, NoneOf1To8, ReadableExactly, Decided}
use Rattle.meaning.proofs.Accepted.{verdict_number, accepted_exactly_lem, refused_exactly_lem}
use Rattle.meaning.proofs.TableAfter.{read_refused_lem}

refused_number : (n : ℕ) → (1 ≤ n) × (n ≤ 8) → NoneOf1To8 n → ⊥
refused_number n h k = ⊎_elim (λ (e : n ≡ 0). omega (arith, h.0)) (λ (e : 9 ≤ n). omega (arith, h.1)) k

module _ (m : Limits) (n : ℕ) (instance plan : List ℕ) where
  pub readable_answer : (r : ReadableInto m n instance plan) → answer m n instance plan ≡ verdict_on r.files.says r.files.stacks
  unfolding answer answer_to
  readable_answer r = rw (le-ltb n (named m) r.room, r.files.read)

  -- a short table has 1 and files that cannot be read have 2 to 8
  readable_by_number : NoneOf1To8 (answer m n instance plan).number → ReadableInto m n instance plan
  unfolding answer answer_to
  readable_by_number h = go (ltb n (named m)) refl (read_files m instance plan) refl
    where
      go : (short : Bool) → ltb n (named m) ≡ short → (says : Reading) → read_files m instance plan ≡ says → ReadableInto m n instance plan
      go true e says k = let one : NoneOf1To8 1 = rw e at h in absurd (refused_number 1 (omega arith) one)
      go false e (refused a) k =
          let r = read_refused_lem m instance plan a k in
          let other : NoneOf1To8 a.number = rw (e, k) at h in
          absurd (refused_number a.number (omega (arith, r.from, r.up_to)) other)
      go false e (readable i p) k = record { room = ltb-false n (named m) e; files = record { says = i; stacks = p; read = k } }

pub readable_exactly_lem : (m : Limits) → ReadableExactly m
readable_exactly_lem m n instance plan =
    (λ r. rw (readable_answer m n instance plan r) (verdict_number r.files.says r.files.stacks), readable_by_number m n instance plan)

pub decided : (m : Limits) → Decided m
decided m n instance plan r =
    let i = r.files.says in
    let p = r.files.stacks in
    rw (readable_answer m n instance plan r) (record { accepted = accepted_exactly_lem i p; refused = refused_exactly_lem i p })
