-- What a writing promises, by its three outcomes: a buffer too short, a table that no files fill, both files written.
use mathlib.Core.Path.{◌≡◌, refl, sym, ap, ◌∙◌}
use mathlib.Core.Logic.{⊎_elim}
use mathlib.Core.Bool.{Bool, true, false, cond, ◌||◌}
use mathlib.Core.List.{List}
use Prim.Native.Nat.{ℕ, ◌≤◌}
use native.Mathlib.Omega.{arith}
use borrow.Author.Tests.{ltb-false}
use lib.Dec.{ltb}
use lib.ListN.{length, drop}
use lib.Seq.{take_at}
use Rattle.meaning.specs.declared.Limits.{Limits}
use Rattle.meaning.specs.Limits.{named}
use Rattle.meaning.specs.Check.{table_after}
use Rattle.meaning.specs.Write.{instance_file, plan_file, stored, Writing, turned_down, files, write_files, written, over, instance_after, plan_after}
use Rattle.meaning.specs.Claims.{Readable, FilledBy, FilledBySome, Roomy, WritingPromise, WritesBack}
use Rattle.meaning.proofs.Tests.{true≢false, or_reads, or_false, lt_reads}
use Rattle.meaning.proofs.ReadFiles.{read_reads}
use Rattle.meaning.proofs.TableAfter.{table_after_lem}
use Rattle.meaning.proofs.Stored.{filled_words, own_instance, own_plan, stored_exactly_lem, stored_reads}

-- readable files are what fills the table after a check of them
pub check_fills : (m : Limits) (file₁ file₂ table₀ : List ℕ) → Readable m file₁ file₂ → named m ≤ length table₀
    → FilledBy m (table_after m table₀ file₁ file₂) file₁ file₂
check_fills m file₁ file₂ table₀ r room =
    let after = table_after_lem m table₀ file₁ file₂ in
    let table = table_after m table₀ file₁ file₂ in
    let still : named m ≤ length table = omega (arith, room, after.size) in
    record { room = still; files = r; fills = (table_after_lem m table file₁ file₂).filled still r ∙ sym (after.filled room r) }

module _ (m : Limits) (table instance plan : List ℕ) where
  -- a table, two buffers, and what is promised of an outcome
  abbrev Promised : Writing → Type 0
  Promised w = WritingPromise m table instance plan (instance_after w instance) (plan_after w plan) (written w)

  abbrev short_test : Bool
  short_test = ltb (length instance) m.bytes || ltb (length plan) m.bytes

  -- ---- the buffers
  if_short : short_test ≡ true → Roomy m instance plan → ⊥
  if_short e h =
      ⊎_elim (λ k. absurd (omega (arith, (lt_reads (length instance) m.bytes).0 k, h.instance_room)))
      (λ k. absurd (omega (arith, (lt_reads (length plan) m.bytes).0 k, h.plan_room)))
      ((or_reads (ltb (length instance) m.bytes) (ltb (length plan) m.bytes)).0 e)

  if_roomy : short_test ≡ false → Roomy m instance plan
  if_roomy e =
      let h = (or_false (ltb (length instance) m.bytes) (ltb (length plan) m.bytes)).0 e in
      record { instance_room = ltb-false (length instance) m.bytes h.0; plan_room = ltb-false (length plan) m.bytes h.1 }

  -- ---- the outcomes
  pub short_promised : (Roomy m instance plan → ⊥) → Promised (turned_down 29)
  unfolding written instance_after plan_after
  short_promised not-roomy =
      record {
        short = ((λ e. not-roomy), (λ f. refl));
        unfilled = ((λ e. absurd (omega (arith, e))), (λ k. absurd (not-roomy k.0)));
        writes = ((λ e. absurd (omega (arith, e))), (λ k. absurd (not-roomy k.0)));
        refused = λ f. record { instance_length = refl; plan_length = refl; instance_bytes = refl; plan_bytes = refl };
        instance_length = omega arith;
        plan_length = omega arith;
        same_bytes = λ roomy. absurd (not-roomy roomy);
        same_words = λ e. absurd (omega (arith, e));
      }

  unfilled_promised : Roomy m instance plan → (FilledBySome m table → ⊥) → Promised (turned_down 30)
  unfolding written instance_after plan_after
  unfilled_promised roomy not-filled =
      record {
        short = ((λ e. absurd (omega (arith, e))), (λ f. absurd (f roomy)));
        unfilled = ((λ e. (roomy, not-filled)), (λ k. refl));
        writes = ((λ e. absurd (omega (arith, e))), (λ k. absurd (not-filled k.1)));
        refused = λ f. record { instance_length = refl; plan_length = refl; instance_bytes = refl; plan_bytes = refl };
        instance_length = omega arith;
        plan_length = omega arith;
        same_bytes = λ k file₁ file₂ table₀ r room e.
            absurd (not-filled (record { instance = file₁; plan = file₂; filled = rw e at (check_fills m file₁ file₂ table₀ r room) }));
        same_words = λ e. absurd (omega (arith, e));
      }

  files_promised : Roomy m instance plan → FilledBy m table (instance_file m table) (plan_file m table) → Promised (files (instance_file m table) (plan_file m table))
  unfolding written instance_after plan_after
  files_promised roomy own =
      let file₁ = instance_file m table in
      let file₂ = plan_file m table in
      let read = (read_reads m file₁ file₂ own.files.says own.files.stacks).0 own.files.read in
      record {
        short = ((λ e. absurd (omega (arith, e))), (λ f. absurd (f roomy)));
        unfilled = ((λ e. absurd (omega (arith, e))), (λ k. absurd (k.1 (record { instance = file₁; plan = file₂; filled = own }))));
        writes = ((λ e. (roomy, record { instance = file₁; plan = file₂; filled = own })), (λ k. refl));
        refused = λ f. absurd (f refl);
        instance_length = read.short_instance;
        plan_length = read.short_plan;
        same_bytes = λ k other₁ other₂ table₀ r room e.
            let other : FilledBy m table other₁ other₂ = rw e at (check_fills m other₁ other₂ table₀ r room) in
            let first = own_instance m table other in
            let second = own_plan m table other in
            record {
              number = refl;
              instance_length = ap length first;
              plan_length = ap length second;
              instance_bytes = ap (λ (a : List ℕ). over a instance) first;
              plan_bytes = ap (λ (a : List ℕ). over a plan) second;
            };
        same_words = λ k table₀ room.
            let first = take_at file₁ (drop (length file₁) instance) (length file₁) refl in
            let second = take_at file₂ (drop (length file₂) plan) (length file₂) refl in
            rw (first, second) ((table_after_lem m table₀ file₁ file₂).filled room own.files ∙ filled_words m table own);
      }

pub writes_back_lem : (m : Limits) → WritesBack m
unfolding write_files
writes_back_lem m table instance plan = go (short_test m table instance plan) (stored m table) refl refl
  where
    go : (short full : Bool) → short_test m table instance plan ≡ short → stored m table ≡ full
        → Promised m table instance plan (cond short (turned_down 29) (cond full (files (instance_file m table) (plan_file m table)) (turned_down 30)))
    go true full e k = short_promised m table instance plan (if_short m table instance plan e)
    go false true e k = files_promised m table instance plan (if_roomy m table instance plan e) ((stored_reads m table).0 k)
    go false false e k =
        unfilled_promised m table instance plan (if_roomy m table instance plan e)
        (λ f. true≢false (sym ((stored_exactly_lem m table).1 f) ∙ k))
