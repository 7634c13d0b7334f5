-- What the reading call promises, from what filling the named words promises and from the lengths of the files and of the table.
use mathlib.Core.Path.{◌≡◌, refl, sym, ap, ap₂, ◌∙◌}
use mathlib.Core.Bool.{true, false}
use mathlib.Core.List.{List, ◌++◌}
use Prim.Native.Nat.{ℕ, ◌≤◌, ◌<◌, ◌-◌}
use native.Mathlib.Nat.{sub-zero}
use native.Mathlib.Omega.{arith}
use borrow.Author.Tests.{lt-ltb, le-ltb}
use lib.ListN.{length, drop, replicate}
use Rattle.meaning.specs.declared.Limits.{Limits}
use Rattle.meaning.specs.Limits.{named}
use Rattle.meaning.specs.Reader.{whole_file}
use Rattle.meaning.specs.Files.{instance_lines}
use Rattle.meaning.specs.Table.{instance_in, stacks_in}
use Rattle.meaning.specs.Check.{Reading, refused, readable, after_instance, read_files, named_after, table_after}
use Rattle.meaning.specs.Claims.{Readable}
use Rattle.meaning.proofs.Tests.{true≢false}
use Rattle.meaning.proofs.Ranges.{read_meets, read_fits}
use Rattle.meaning.proofs.Decode.{instance_decoded, stacks_decoded}
use Rattle.table.specs.Filled.{Bounded, Filled}
use Rattle.table.proofs.Fill.{table_filled}
use Rattle.std.specs.Prelude.{Ok, is_err}
use Rattle.reading.specs.Answered.{FilesRead, refused_with, read_as, FillPromise, NamedPromise, expected, ReadPromise}

-- ---- the named words, after a filling whose answer is told apart by a test
module _ (m : Limits) (r : FilesRead) where
  -- they stay where nothing is refused
  kept : (says : Reading) (t : List ℕ) → FillPromise m says r t → is_err r ≡ false → NamedPromise m says r t
  unfolding named_after
  kept (refused a) t h k = absurd (true≢false (ap is_err (sym h.answered) ∙ k))
  kept (readable i p) t h k = record { answered = h.answered; words = h.holds i p refl }

  -- and are cleared after a refusal
  cleared : (says : Reading) (t : List ℕ) → r ≡ read_as says → is_err r ≡ true → t ≡ replicate (named m) 0 → NamedPromise m says r t
  unfolding named_after
  cleared (refused a) t h k z = record { answered = h; words = z }
  cleared (readable i p) t h k z = absurd (true≢false (sym k ∙ ap is_err h))

-- ---- the lengths of the files
module _ (m : Limits) (instance plan : List ℕ) where
  abbrev says : Reading
  says = read_files m instance plan

  pub instance_overlong : (r : FilesRead) (t : List ℕ) → m.bytes < length instance → r ≡ refused_with 2 0 0 → t ≡ replicate (named m) 0 → NamedPromise m says r t
  unfolding read_files
  instance_overlong r t h e z = cleared m r says t (rw (lt-ltb m.bytes (length instance) h) e) (rw e) z

  -- where the instance is short enough
  module _ (h : length instance ≤ m.bytes) where
    pub plan_overlong : (r : FilesRead) (t : List ℕ) → m.bytes < length plan → r ≡ refused_with 3 0 0 → t ≡ replicate (named m) 0 → NamedPromise m says r t
    unfolding read_files
    plan_overlong r t k e z =
        cleared m r says t (rw (le-ltb m.bytes (length instance) h, lt-ltb m.bytes (length plan) k) e) (rw e) z

    both_short : length plan ≤ m.bytes → says ≡ after_instance m plan (whole_file (instance_lines m) instance)
    unfolding read_files
    both_short k = rw (le-ltb m.bytes (length instance) h, le-ltb m.bytes (length plan) k)

    -- and the plan too
    module _ (k : length plan ≤ m.bytes) (r : FilesRead) (t : List ℕ) (filled : FillPromise m (after_instance m plan (whole_file (instance_lines m) instance)) r t) where
      pub words_kept : is_err r ≡ false → NamedPromise m says r t
      words_kept n = kept m r says t (rw (both_short k) filled) n

      pub words_cleared : (zeros : List ℕ) → is_err r ≡ true → zeros ≡ replicate (named m) 0 → NamedPromise m says r zeros
      words_cleared zeros n z = cleared m r says zeros (rw (both_short k) filled.answered) n z

-- ---- the length of the table
module _ (m : Limits) (instance plan table : List ℕ) where
  -- a short one stays
  pub short_read : (r : FilesRead) → length table < named m → r ≡ refused_with 1 0 0 → ReadPromise m instance plan table table r
  unfolding expected table_after
  short_read r h e =
      let short = lt-ltb (length table) (named m) h in
      let never : r ≡ Ok tt → ⊥ = λ k. true≢false (ap is_err (sym e ∙ k)) in
      record { answered = rw short e; words = rw short; model = λ k. absurd (never k); filled = λ k. absurd (never k) }

  -- with any words beyond them, the named words of readable files hold what the files say
  held : Bounded m → (says : Reading) → read_files m instance plan ≡ says → read_as says ≡ Ok tt → (beyond : List ℕ)
      → (says ≡ readable (instance_in m (named_after m says ++ beyond)) (stacks_in m (named_after m says ++ beyond))) × Filled m (named_after m says ++ beyond)
  unfolding named_after
  held b (refused a) e k beyond = absurd (true≢false (ap is_err k))
  held b (readable i p) e k beyond =
      let r : Readable m instance plan = record { says = i; stacks = p; read = e } in
      let fits = read_fits m instance plan r in
      (sym (ap₂ readable (instance_decoded m i p fits beyond) (stacks_decoded m i p fits beyond)), table_filled m i p beyond (read_meets m instance plan r) b)

  -- of a long one the words beyond the named ones stay
  pub long_read : Bounded m → (r : FilesRead) (t : List ℕ) (end : ℕ) → end ≡ named m → end ≤ length table → NamedPromise m (read_files m instance plan) r t
      → ReadPromise m instance plan table (t ++ drop (end - 0) table) r
  unfolding expected table_after
  long_read b r t end n room h =
      let e = le-ltb (length table) (named m) (omega arith) in
      let says = read_files m instance plan in
      let beyond : drop (end - 0) table ≡ drop (named m) table = rw (sub-zero end, n) in
      let quiet : r ≡ Ok tt → read_as says ≡ Ok tt = λ k. sym h.answered ∙ k in
      record {
        answered = rw e h.answered;
        words = rw (e, h.words, beyond);
        model = λ k. rw (h.words, beyond) (held b says refl (quiet k) (drop (named m) table)).0;
        filled = λ k. rw (h.words, beyond) (held b says refl (quiet k) (drop (named m) table)).1;
      }
