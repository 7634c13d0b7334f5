-- What the writing call promises, from what its tests and the writers of the files promise.
use mathlib.Core.Path.{◌≡◌, refl, sym, ap, ap₂, ◌∙◌}
use mathlib.Core.Bool.{Bool, true, false, cond, ◌||◌}
use mathlib.Core.List.{List}
use Prim.Native.Nat.{ℕ, ◌≤◌, ◌<◌}
use native.Mathlib.Omega.{arith}
use borrow.Author.Tests.{lt-ltb, le-ltb}
use lib.Dec.{ltb}
use lib.ListN.{length, drop}
use Rattle.meaning.specs.declared.Limits.{Limits}
use Rattle.meaning.specs.declared.Written.{Written}
use Rattle.meaning.specs.Limits.{small, named}
use Rattle.meaning.specs.Write.{instance_file, plan_file, stored, Writing, turned_down, files, write_files, written, instance_after, plan_after}
use Rattle.meaning.proofs.Ranges.{read_meets}
use Rattle.meaning.proofs.ReadFiles.{read_reads}
use Rattle.meaning.proofs.Stored.{stored_reads, filled_whole}
use Rattle.meaning.proofs.WriteBack.{writes_back_lem}
use Rattle.table.specs.Filled.{Bounded, Room, Filled}
use Rattle.table.proofs.Fill.{table_filled}
use Rattle.printing.specs.Wrote.{Wrote}
use Rattle.stored.specs.Parts.{PrintRoom}
use Rattle.writing.specs.Promised.{writing_of, WritePromise}

-- the limits of document 01 leave room for every file
pub small_room : (m : Limits) → m ≡ small → Bounded m → PrintRoom m
small_room m e b = record { bounded = b; instance = rw e (omega arith); plan = rw e (omega arith) }

-- ---- a table that passes holds a model in range, whose files are short enough
stored_filled : {m : Limits} → Bounded m → (t : List ℕ) → stored m t ≡ true → Filled m t
stored_filled {m} b t e =
    let h = (stored_reads m t).0 e in
    let f = h.files in
    rw (filled_whole m t h) at (table_filled m f.says f.stacks (drop (named m) t) (read_meets m (instance_file m t) (plan_file m t) f) b)

-- the same where the test of the table told it
pub told_filled : {m : Limits} → Bounded m → (t : List ℕ) {r : Bool} → r ≡ stored m t → r ≡ true → Filled m t
told_filled b t told e = stored_filled b t (sym told ∙ e)

pub told_room : {m : Limits} → Bounded m → (t : List ℕ) {r : Bool} → r ≡ stored m t → r ≡ true → Room m t
told_room b t told e = let filled = told_filled b t told e in record { bounded = filled.bounded; room = filled.room }

pub stored_short : (m : Limits) (t : List ℕ) → stored m t ≡ true → (length (instance_file m t) ≤ m.bytes) × (length (plan_file m t) ≤ m.bytes)
stored_short m t e =
    let f = ((stored_reads m t).0 e).files in
    let read = (read_reads m (instance_file m t) (plan_file m t) f.says f.stacks).0 f.read in
    (read.short_instance, read.short_plan)

-- ---- the outcomes
module _ (m : Limits) (t instance plan : List ℕ) where
  -- what was found out is what is written
  told : (w : Writing) → writing_of m t instance plan ≡ w → (r : Written) → r ≡ written w → (instance' plan' : List ℕ) → instance' ≡ instance_after w instance
      → plan' ≡ plan_after w plan → WritePromise m t instance plan instance' plan' r
  told w e r a instance' plan' b c =
      let answered = a ∙ ap written (sym e) in
      let first = b ∙ ap (λ (v : Writing). instance_after v instance) (sym e) in
      let second = c ∙ ap (λ (v : Writing). plan_after v plan) (sym e) in
      record { answered = answered; instance_bytes = first; plan_bytes = second; promise = rw (answered, first, second) (writes_back_lem m t instance plan) }

  -- by the two tests
  chosen : (short full : Bool) → (ltb (length instance) m.bytes || ltb (length plan) m.bytes) ≡ short → stored m t ≡ full
      → writing_of m t instance plan ≡ cond short (turned_down 29) (cond full (files (instance_file m t) (plan_file m t)) (turned_down 30))
  unfolding write_files
  chosen short full e k = ap₂ (λ (a b : Bool). cond a (turned_down 29) (cond b (files (instance_file m t) (plan_file m t)) (turned_down 30))) e k

  pub instance_short : (r : Written) → length instance < m.bytes → r ≡ written (turned_down 29) → WritePromise m t instance plan instance plan r
  unfolding instance_after plan_after
  instance_short r h a =
      let e = ap (λ (b : Bool). b || ltb (length plan) m.bytes) (lt-ltb (length instance) m.bytes h) in
      told (turned_down 29) (chosen true (stored m t) e refl) r a instance plan refl refl

  pub plan_short : (r : Written) → m.bytes ≤ length instance → length plan < m.bytes → r ≡ written (turned_down 29) → WritePromise m t instance plan instance plan r
  unfolding instance_after plan_after
  plan_short r k h a =
      let e = ap₂ ◌||◌ (le-ltb (length instance) m.bytes k) (lt-ltb (length plan) m.bytes h) in
      told (turned_down 29) (chosen true (stored m t) e refl) r a instance plan refl refl

  module _ (long : m.bytes ≤ length instance) (wide : m.bytes ≤ length plan) where
    roomy : (ltb (length instance) m.bytes || ltb (length plan) m.bytes) ≡ false
    roomy = ap₂ ◌||◌ (le-ltb (length instance) m.bytes long) (le-ltb (length plan) m.bytes wide)

    pub unfilled : (r : Written) → stored m t ≡ false → r ≡ written (turned_down 30) → WritePromise m t instance plan instance plan r
    unfolding instance_after plan_after
    unfilled r e a = told (turned_down 30) (chosen false false roomy e) r a instance plan refl refl

    pub both_written : (r : Written) (instance' plan' : List ℕ) → stored m t ≡ true → r.number ≡ 0 → Wrote (instance_file m t) instance instance' r.instance_length
        → Wrote (plan_file m t) plan plan' r.plan_length → WritePromise m t instance plan instance' plan' r
    unfolding instance_after plan_after written
    both_written r instance' plan' e z first second =
        told (files (instance_file m t) (plan_file m t)) (chosen false true roomy e) r
        (λ j. record { number = z j; instance_length = first.count j; plan_length = second.count j }) instance' plan' first.after second.after
