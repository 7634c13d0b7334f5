-- The test of a table's words holds exactly when some readable pair of files fills them; and then that pair is the table's own files.
use mathlib.Core.Path.{◌≡◌, refl, sym, ap, ap₂, subst, ◌∙◌}
use mathlib.Core.Logic.{◌↔◌}
use mathlib.Core.Bool.{true}
use mathlib.Core.List.{List, [], ◌∷◌, ◌++◌}
use Prim.Native.Nat.{ℕ}
use lib.Dec.{leb, eqb}
use lib.ListN.{length, take, drop, take-append-drop}
use Rattle.meaning.specs.declared.Limits.{Limits}
use Rattle.meaning.specs.Lists.{same_numbers}
use Rattle.meaning.specs.Limits.{named}
use Rattle.meaning.specs.Model.{Instance, Stack}
use Rattle.meaning.specs.Table.{words, instance_in, stacks_in}
use Rattle.meaning.specs.Check.{Reading, refused, readable, read_files}
use Rattle.meaning.specs.Print.{printed_instance, printed_plan}
use Rattle.meaning.specs.Write.{instance_file, plan_file, fills_with, stored}
use Rattle.meaning.specs.Claims.{Readable, FilledBy, FilledBySome, StoredExactly}
use Rattle.meaning.proofs.Tests.{true≢false, and_reads, le_reads, eq_reads}
use Rattle.meaning.proofs.Lists.{no_cons}
use Rattle.meaning.proofs.Printed.{read_printed_lem}
use Rattle.meaning.proofs.Ranges.{read_fits}
use Rattle.meaning.proofs.Decode.{instance_decoded, stacks_decoded}
use Rattle.meaning.proofs.TableAfter.{table_after_lem}

pub same_reads : (l r : List ℕ) → (same_numbers l r ≡ true) ↔ (l ≡ r)
unfolding same_numbers
same_reads [] [] = ((λ e. refl), (λ e. refl))
same_reads [] (n ∷ r) = ((λ e. absurd (true≢false (sym e))), (λ e. absurd (no_cons n r (sym e))))
same_reads (n ∷ l) [] = ((λ e. absurd (true≢false (sym e))), (λ e. absurd (no_cons n l e)))
same_reads (n ∷ l) (k ∷ r) = (
  (λ e.
      let h = (and_reads (eqb n k) (same_numbers l r)).0 e in
      ap₂ (λ (a : ℕ) (w : List ℕ). a ∷ w) ((eq_reads n k).0 h.0) ((same_reads l r).0 h.1)),
  (λ e.
      let head : n ≡ k = cc in
      let tail : l ≡ r = cc in
      (and_reads (eqb n k) (same_numbers l r)).1 ((eq_reads n k).1 head, (same_reads l r).1 tail)),
)

module _ (m : Limits) (table : List ℕ) where
  -- ---- the files that fill a table are its own
  module _ {instance plan : List ℕ} (h : FilledBy m table instance plan) where
    pub filled_words : words m h.files.says h.files.stacks ≡ take (named m) table
    filled_words = sym ((table_after_lem m table instance plan).filled h.room h.files) ∙ h.fills

    pub filled_whole : words m h.files.says h.files.stacks ++ drop (named m) table ≡ table
    filled_whole = ap (λ (w : List ℕ). w ++ drop (named m) table) filled_words ∙ take-append-drop (named m) table

    pub filled_instance : instance_in m table ≡ h.files.says
    filled_instance =
        ap (instance_in m) (sym filled_whole)
        ∙ instance_decoded m h.files.says h.files.stacks (read_fits m instance plan h.files) (drop (named m) table)

    pub filled_stacks : stacks_in m table ≡ h.files.stacks
    filled_stacks =
        ap (stacks_in m) (sym filled_whole)
        ∙ stacks_decoded m h.files.says h.files.stacks (read_fits m instance plan h.files) (drop (named m) table)

    pub own_instance : instance_file m table ≡ instance
    own_instance = ap printed_instance filled_instance ∙ sym (read_printed_lem m instance plan h.files).says

    pub own_plan : plan_file m table ≡ plan
    own_plan = ap printed_plan filled_stacks ∙ sym (read_printed_lem m instance plan h.files).stacks

  -- ---- the test
  fills_reads : (ws : List ℕ) (r : Reading) → (fills_with m ws r ≡ true) ↔ ((i : Instance) × (p : List Stack) × (r ≡ readable i p) × (words m i p ≡ ws))
  unfolding fills_with
  fills_reads ws (refused a) = ((λ e. absurd (true≢false (sym e))), (λ k. cc k.2))
  fills_reads ws (readable i p) = (
    (λ e. (i, p, refl, (same_reads (words m i p) ws).0 e)),
    (λ k.
        let same : words m i p ≡ words m k.0 k.1 = cc k.2 in
        (same_reads (words m i p) ws).1 (same ∙ k.3)),
  )

  -- the files are these, if any
  pub stored_reads : (stored m table ≡ true) ↔ FilledBy m table (instance_file m table) (plan_file m table)
  unfolding stored
  stored_reads =
      let reading = read_files m (instance_file m table) (plan_file m table) in
      let test = and_reads (leb (named m) (length table)) (fills_with m (take (named m) table) reading) in
      let fills = fills_reads (take (named m) table) reading in (
        (λ e.
            let t = test.0 e in
            let room = (le_reads (named m) (length table)).0 t.0 in
            let k = fills.0 t.1 in
            let files : Readable m (instance_file m table) (plan_file m table) = record { says = k.0; stacks = k.1; read = k.2 } in
            record { room = room; files = files; fills = (table_after_lem m table (instance_file m table) (plan_file m table)).filled room files ∙ k.3 }),
        (λ h. test.1 ((le_reads (named m) (length table)).1 h.room, fills.1 (h.files.says, h.files.stacks, h.files.read, filled_words h))),
      )

  -- and so are all that fill it
  pub own_files : FilledBySome m table → FilledBy m table (instance_file m table) (plan_file m table)
  own_files f =
      subst (λ (a : List ℕ). FilledBy m table a (plan_file m table)) (sym (own_instance f.filled))
      (subst (FilledBy m table f.instance) (sym (own_plan f.filled)) f.filled)

pub stored_exactly_lem : (m : Limits) → StoredExactly m
stored_exactly_lem m table = (
  (λ e. record { instance = instance_file m table; plan = plan_file m table; filled = (stored_reads m table).0 e }),
  (λ f. (stored_reads m table).1 (own_files m table f)),
)
