-- The tests on rows that hold the stacks of a filled table: each is the rule's test on the stacks at these places.
use mathlib.Core.Path.{◌≡◌, ap, ap₂, ◌∙◌}
use mathlib.Core.Bool.{◌&&◌}
use mathlib.Core.List.{List}
use Prim.Native.Nat.{ℕ, ◌+◌, ◌-◌, ◌<◌, min, max}
use native.Mathlib.Omega.{arith}
use lib.Dec.{leb, eqb}
use lib.ListN.{length, get_or}
use Rattle.meaning.specs.declared.Limits.{Limits}
use Rattle.meaning.specs.Model.{Instance, Stack, x, y, IS}
use Rattle.meaning.specs.Measures.{bottom, across, xe, ye}
use Rattle.meaning.specs.Rules.{plant_dock_count, disjoint, in_contact, in_loading_order}
use Rattle.meaning.specs.Table.{instance_in, stacks_in}
use Rattle.table.specs.Filled.{stack_at}
use Rattle.views.proofs.Bounds.{orders_bound}
use Rattle.manifest.specs.declared.row.Row.{Row}
use Rattle.manifest.specs.Manifest.{manifest_order, manifest_at, HoldsRows, row_at}
use Rattle.manifest.proofs.Order.{order_within}
use Rattle.manifest.proofs.Reading.{row_is, footprint_is, rank_is}
use Rattle.pairrules.specs.PairRules.{disjoint_footprints, footprints_in_contact, ranks_before, disjoint_at, in_contact_at, in_order_at}
use Rattle.pairrules.proofs.Ranks.{FewOrders, ranks_before_lem}

-- the ground of a stack is as wide as the stack stands across the trailer
width_is : (i : Instance) (s : Stack) → ye i s - y s ≡ across i s
width_is i s = omega arith

module _ {m : Limits} {t : List ℕ} {rows : List Row} (h : HoldsRows m t rows) where
  abbrev i : Instance
  i = instance_in m t

  abbrev p : List Stack
  p = stacks_in m t

  few_orders : (k : ℕ) → k < length p → FewOrders i (manifest_at p k)
  few_orders k inside = orders_bound h.filled (get_or (manifest_order p) k 0) (order_within p k inside)

  -- 17: how many plant docks the stack has, and its code by its place in the plan's file
  pub docks_are : (k : ℕ) → k < length p → (row_at rows k).plant_docks ≡ plant_dock_count i (manifest_at p k)
  docks_are k inside = ap (λ (r : Row). r.plant_docks) (row_is h k inside)

  pub code_is : (k : ℕ) → k < length p → {s code : ℕ} → s ≡ (row_at rows k).index → code ≡ IS (bottom i (stack_at p s)) → code ≡ IS (bottom i (manifest_at p k))
  code_is k inside es e = e ∙ ap (λ s. IS (bottom i (stack_at p s))) (es ∙ ap (λ (r : Row). r.index) (row_is h k inside))

  module _ (a b : ℕ) (la : a < length p) (lb : b < length p) where
    pub disjoint_is : disjoint_at rows a b ≡ disjoint i (manifest_at p a) (manifest_at p b)
    disjoint_is = ap₂ disjoint_footprints (footprint_is h a la) (footprint_is h b lb)

    pub contact_is : in_contact_at rows a b ≡ in_contact i (manifest_at p a) (manifest_at p b)
    contact_is =
        let s = manifest_at p a in
        let r = manifest_at p b in
        ap₂ footprints_in_contact (footprint_is h a la) (footprint_is h b lb)
        ∙ ap₂ (λ u v. eqb (xe i r) (x s) && leb (max (y s) (y r) + min 100 (min u v)) (min (ye i s) (ye i r))) (width_is i s) (width_is i r)

    pub order_is : in_order_at rows a b ≡ in_loading_order i (manifest_at p a) (manifest_at p b)
    order_is =
        let s = manifest_at p a in
        let r = manifest_at p b in
        let ranks = ap₂ ranks_before (rank_is h a la) (rank_is h b lb) ∙ ranks_before_lem i s r (few_orders a la) (few_orders b lb) in
        rw (ranks, ap (λ (r : Row). r.footprint) (row_is h a la), ap (λ (r : Row). r.footprint) (row_is h b lb))
