-- The table after a check, and the verdicts of files that cannot be read.
use mathlib.Core.Path.{◌≡◌, refl, ap, subst, ◌∙◌}
use mathlib.Core.Bool.{Bool, true, false, cond}
use mathlib.Core.Option.{Option, none, some}
use mathlib.Core.List.{List, ◌++◌}
use Prim.Native.Nat.{ℕ, ◌≤◌, ◌<◌}
use native.Mathlib.Omega.{arith}
use borrow.Author.Tests.{lt-ltb, le-ltb}
use lib.Dec.{ltb}
use lib.ListN.{length, take, drop, length-append, length-drop, length-replicate}
use lib.Seq.{take_at, drop_at}
use Rattle.meaning.specs.declared.Limits.{Limits}
use Rattle.meaning.specs.declared.Place.{Place}
use Rattle.meaning.specs.Limits.{named}
use Rattle.meaning.specs.Reader.{Outcome, found, wrong_form, out_of_range, whole_file}
use Rattle.meaning.specs.Model.{Instance, Stack}
use Rattle.meaning.specs.Files.{instance_lines, plan_lines}
use Rattle.meaning.specs.Places.{place, lowest}
use Rattle.meaning.specs.Verdict.{refusal}
use Rattle.meaning.specs.Check.{Reading, refused, readable, refused_at, after_plan, after_clash, after_instance, code_clashes, read_files, named_after, table_after}
use Rattle.meaning.specs.Claims.{TableAfter, RefusedReading, ReadRefused}
use Rattle.meaning.proofs.Tests.{by_less}
use Rattle.meaning.proofs.Decode.{decodes}
use Rattle.meaning.proofs.Ranges.{read_fits}

-- ---- the named words
-- a reading has words for all of them
named_size : (m : Limits) (instance plan : List ℕ) (r : Reading) → read_files m instance plan ≡ r → length (named_after m r) ≡ named m
unfolding named_after
named_size m instance plan (refused a) e = length-replicate (named m) 0
named_size m instance plan (readable i p) e = (decodes m i p (read_fits m instance plan (record { says = i; stacks = p; read = e }))).size

module _ (m : Limits) (table instance plan : List ℕ) where
  abbrev words_after : List ℕ
  words_after = named_after m (read_files m instance plan)

  sized : length words_after ≡ named m
  sized = named_size m instance plan (read_files m instance plan) refl

  -- a table that is short, and one that is not
  if_short : length table < named m → table_after m table instance plan ≡ table
  unfolding table_after
  if_short h = rw (lt-ltb (length table) (named m) h)

  if_long : named m ≤ length table → table_after m table instance plan ≡ words_after ++ drop (named m) table
  unfolding table_after
  if_long h = rw (le-ltb (length table) (named m) h)

  by_length : (P : List ℕ → Type 0) → (length table < named m → P table) → (named m ≤ length table → P (words_after ++ drop (named m) table)) → P (table_after m table instance plan)
  unfolding table_after
  by_length P f g = by_less P (length table) (named m) f g

  named_words : named m ≤ length table → take (named m) (table_after m table instance plan) ≡ words_after
  named_words h = rw (if_long h) (take_at words_after (drop (named m) table) (named m) sized)

pub table_after_lem : (m : Limits) → TableAfter m
unfolding named_after
table_after_lem m table instance plan =
    let ws = words_after m table instance plan in
    let size = sized m table instance plan in
    record {
      short = if_short m table instance plan;
      size =
          by_length m table instance plan (λ t. length t ≡ length table) (λ h. refl)
          (λ h. length-append ws (drop (named m) table) ∙ omega (arith, size, length-drop (named m) table));
      beyond =
          by_length m table instance plan (λ t. drop (named m) t ≡ drop (named m) table) (λ h. refl) (λ h. drop_at ws (drop (named m) table) (named m) size);
      zero = λ h a e. named_words m table instance plan h ∙ ap (named_after m) e;
      filled = λ h r. named_words m table instance plan h ∙ ap (named_after m) r.read;
      holds = λ h r.
          let e = named_words m table instance plan h ∙ ap (named_after m) r.read in
          rw e (decodes m r.says r.stacks (read_fits m instance plan r));
    }

-- ---- verdicts 2 to 8
abbrev IfRefused : Reading → Type 0
IfRefused (refused a) = RefusedReading a
IfRefused (readable i p) = Unit {0}

refused_with_lem : (n : ℕ) (q : Place) → (2 ≤ n) × (n ≤ 8) → RefusedReading (refusal n q)
refused_with_lem n q h = record { from = h.0; up_to = h.1; cost = refl; trucks = refl }

plan_refused : (i : Instance) (r : Outcome (List Stack)) → IfRefused (after_plan i r)
unfolding after_plan
plan_refused i (found p n rest) = tt
plan_refused i (wrong_form n) = refused_with_lem 7 (place n 0 0) (omega arith)
plan_refused i (out_of_range n) = refused_with_lem 8 (place n 0 0) (omega arith)

clash_refused : (m : Limits) (i : Instance) (plan : List ℕ) (o : Option Place) → IfRefused (after_clash m i plan o)
unfolding after_clash
clash_refused m i plan none = plan_refused i (whole_file (plan_lines m i) plan)
clash_refused m i plan (some q) = refused_with_lem 6 q (omega arith)

instance_refused : (m : Limits) (plan : List ℕ) (r : Outcome Instance) → IfRefused (after_instance m plan r)
unfolding after_instance
instance_refused m plan (found i n rest) = clash_refused m i plan (lowest (code_clashes i))
instance_refused m plan (wrong_form n) = refused_with_lem 4 (place n 0 0) (omega arith)
instance_refused m plan (out_of_range n) = refused_with_lem 5 (place n 0 0) (omega arith)

files_refused : (m : Limits) (instance plan : List ℕ) → IfRefused (read_files m instance plan)
unfolding read_files
files_refused m instance plan = go (ltb m.bytes (length instance)) (ltb m.bytes (length plan))
  where
    go : (a b : Bool) → IfRefused (cond a (refused_at 2 0) (cond b (refused_at 3 0) (after_instance m plan (whole_file (instance_lines m) instance))))
    go true b = refused_with_lem 2 (place 0 0 0) (omega arith)
    go false true = refused_with_lem 3 (place 0 0 0) (omega arith)
    go false false = instance_refused m plan (whole_file (instance_lines m) instance)

pub read_refused_lem : (m : Limits) → ReadRefused m
read_refused_lem m instance plan a e = subst IfRefused e (files_refused m instance plan)
