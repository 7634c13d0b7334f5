-- What is read of rows that hold the stacks of a filled table.
use mathlib.Core.Path.{◌≡◌, refl, sym, ap, ◌∙◌}
use mathlib.Core.Logic.{◌⊎◌, inl, inr, ⊎_elim}
use mathlib.Core.Bool.{true, false}
use mathlib.Core.List.{List}
use Prim.Native.Nat.{ℕ, ◌-◌, ◌≤◌, ◌<◌}
use native.Mathlib.Nat.{eq-or-lt_of_le}
use native.Mathlib.Omega.{arith}
use lib.ListN.{length, get_or}
use Rattle.meaning.specs.declared.Limits.{Limits}
use Rattle.meaning.specs.Model.{Instance, Stack, truck}
use Rattle.meaning.specs.Measures.{used_by, same_used}
use Rattle.meaning.specs.Table.{instance_in, stacks_in}
use Rattle.meaning.proofs.Tests.{true≢false}
use Rattle.meaning.proofs.RuleKinds.{used_reads}
use Rattle.table.specs.Filled.{TruckNumber}
use Rattle.table.proofs.Access.{truck_of_lem}
use Rattle.views.specs.Views.{footprint_of, rank_of}
use Rattle.manifest.specs.declared.row.Row.{Row}
use Rattle.manifest.specs.Manifest.{manifest_order, manifest_at, row_of, HoldsRows, OneTruck, Parted}
use Rattle.manifest.specs.Manifest.{row_at, RowWithin, footprint_at, rank_at, same_truck_at, RunBefore, RunBehind}
use Rattle.manifest.proofs.Order.{order_within}
use Rattle.manifest.proofs.Rows.{kept_row}
use Rattle.manifest.proofs.RowMost.{row_within}
use Rattle.manifest.proofs.UsedTrucks.{filled_keyed, one_truck, parted_first, parted_end, parted_between}

some_or_none : (n : ℕ) → (0 ≡ n) ⊎ (0 < n)
some_or_none n = let h : 0 ≤ n = omega arith in eq-or-lt_of_le h

module _ {m : Limits} {t : List ℕ} {rows : List Row} (h : HoldsRows m t rows) where
  abbrev i : Instance
  i = instance_in m t

  abbrev p : List Stack
  p = stacks_in m t

  module _ (k : ℕ) (inside : k < length p) where
    -- the row is there
    pub row_room : k < length rows
    row_room = omega (arith, h.room)

    -- and it is the row of its stack: each of its fields is the measure itself
    pub row_is : row_at rows k ≡ row_of i p (get_or (manifest_order p) k 0)
    row_is = kept_row h k inside

    pub row_most : RowWithin (row_at rows k)
    row_most = rw row_is (row_within h.filled (get_or (manifest_order p) k 0) (order_within p k inside))

    -- the place in the file is that of a stack
    pub index_within : (row_at rows k).index < length p
    index_within = rw row_is (order_within p k inside)

    pub truck_is : ((row_at rows k).truck ≡ truck (manifest_at p k)) × TruckNumber i (row_at rows k).truck
    truck_is = truck_of_lem h.filled (get_or (manifest_order p) k 0) (order_within p k inside) (row_at rows k).truck (ap (λ (r : Row). r.truck) row_is)

    pub footprint_is : footprint_at rows k ≡ footprint_of i (manifest_at p k)
    footprint_is = ap (λ (r : Row). r.footprint) row_is

    pub rank_is : rank_at rows k ≡ rank_of i (truck (manifest_at p k)) (manifest_at p k).load
    rank_is = ap (λ (r : Row). r.rank) row_is

  pub same_truck_is : (a b : ℕ) → a < length p → b < length p → same_truck_at rows a b ≡ same_used (used_by (manifest_at p a)) (used_by (manifest_at p b))
  same_truck_is a b la lb = rw (row_is a la, row_is b lb) refl

  same_used_lem : (a b : ℕ) → a < length p → b < length p → same_truck_at rows a b ≡ true → used_by (manifest_at p a) ≡ used_by (manifest_at p b)
  same_used_lem a b la lb e = (used_reads (used_by (manifest_at p a)) (used_by (manifest_at p b))).0 (sym (same_truck_is a b la lb) ∙ e)

  not_used : (a b : ℕ) → a < length p → b < length p → same_truck_at rows a b ≡ false → used_by (manifest_at p a) ≡ used_by (manifest_at p b) → ⊥
  not_used a b la lb e u = true≢false (sym ((used_reads (used_by (manifest_at p a)) (used_by (manifest_at p b))).1 u) ∙ sym (same_truck_is a b la lb) ∙ e)

  -- a run of rows up to `end` is a used truck, and parts what stands before it from the rest
  pub run_before : {start end : ℕ} → end ≤ length p → RunBefore rows start end → OneTruck p start end × Parted p start
  run_before {start} {end} within run =
      let last : end - 1 < length p = omega (arith, run.some) in
      let used : (k : ℕ) → start ≤ k → k < end → used_by (manifest_at p (end - 1)) ≡ used_by (manifest_at p k) =
      λ k from up. same_used_lem (end - 1) k last (omega arith) (run.same k from up)
      in
      let first = used start (omega arith) run.some in (
        one_truck (filled_keyed h.filled) start end run.some within (λ k from up. sym (used k from up) ∙ first),
        by_whole first run.whole,
      )
    where
      by_whole : used_by (manifest_at p (end - 1)) ≡ used_by (manifest_at p start) → (start ≡ 0) ⊎ (same_truck_at rows (end - 1) (start - 1) ≡ false) → Parted p start
      by_whole first (inl e) = parted_first p start (omega arith)
      by_whole first (inr e) =
          ⊎_elim (λ z. parted_first p start (omega arith))
          (λ some.
          parted_between (filled_keyed h.filled) start some (λ u.
          not_used (end - 1) (start - 1) (omega (arith, run.some)) (omega (arith, run.some)) e (first ∙ sym u)))
          (some_or_none start)

  -- the rows of a run from k on, up to `end`, are of the used truck of k, and are parted from those behind
  pub run_behind : {k end : ℕ} → RunBehind rows k end (length p) → OneTruck p k end × Parted p end
  run_behind {k} {end} run =
      let inside : k < length p = omega (arith, run.some, run.within) in
      let used : (j : ℕ) → k ≤ j → j < end → used_by (manifest_at p k) ≡ used_by (manifest_at p j) =
      λ j from up. same_used_lem k j inside (omega (arith, run.within)) (run.same j from up)
      in (
        one_truck (filled_keyed h.filled) k end run.some run.within (λ j from up. sym (used j from up)),
        by_whole (used (end - 1) (omega (arith, run.some)) (omega (arith, run.some))) run.whole,
      )
    where
      by_whole : used_by (manifest_at p k) ≡ used_by (manifest_at p (end - 1)) → (end ≡ length p) ⊎ (same_truck_at rows k end ≡ false) → Parted p end
      by_whole last (inl e) = rw e (parted_end p)
      by_whole last (inr e) =
          ⊎_elim (λ z. rw z (parted_end p))
          (λ less.
          parted_between (filled_keyed h.filled) end (omega (arith, run.some)) (λ u. not_used k end (omega (arith, run.some)) less e (last ∙ u)))
          (eq-or-lt_of_le run.within)
