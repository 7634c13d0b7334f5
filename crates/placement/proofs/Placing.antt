-- What the rows of a used truck tell, said of its stacks.
use mathlib.Core.Path.{◌≡◌, sym, ap, ap₂, subst, ◌∙◌}
use mathlib.Core.Logic.{◌↔◌}
use mathlib.Core.Bool.{Bool, true, not, ◌||◌}
use mathlib.Core.List.{List}
use Prim.Native.Nat.{ℕ, ◌-◌, ◌<◌}
use native.Mathlib.Omega.{arith}
use borrow.Author.Tests.{eqb-true}
use lib.Dec.{eqb}
use lib.ListN.{length}
use Rattle.meaning.specs.declared.Limits.{Limits}
use Rattle.meaning.specs.Lists.{In, any, only_if, up_from}
use Rattle.meaning.specs.Model.{Instance, Stack, number, x}
use Rattle.meaning.specs.Measures.{used_by, another}
use Rattle.meaning.specs.Places.{place}
use Rattle.meaning.specs.Rules.{stack_places, disjoint, in_contact, braced_by, braced, no_amount, in_loading_order}
use Rattle.meaning.specs.Table.{instance_in, stacks_in}
use Rattle.meaning.proofs.Tests.{same_test, and_reads, iff_trans}
use Rattle.meaning.proofs.Lists.{any_reads, in_flat_map, in_up_from}
use Rattle.meaning.proofs.WellFormed.{meets_formed}
use Rattle.meaning.proofs.Extents.{Ends, formed_ends}
use Rattle.search.specs.Lowest.{lowest_in}
use Rattle.search.proofs.Lowest.{lowest_members}
use Rattle.manifest.specs.declared.Block.{Block}
use Rattle.views.specs.declared.Footprint.{Footprint}
use Rattle.manifest.specs.declared.row.Row.{Row}
use Rattle.manifest.specs.Manifest.{manifest_at, block, HoldsRows, OneTruck, row_at, footprint_at}
use Rattle.manifest.proofs.UsedTrucks.{block_place}
use Rattle.manifest.proofs.Reading.{row_is, footprint_is}
use Rattle.pairrules.specs.PairRules.{in_contact_at, Inside, EachTwo}
use Rattle.pairrules.proofs.Places.{block_has, block_pairs}
use Rattle.pairrules.proofs.Reading.{disjoint_is, contact_is, order_is}
use Rattle.pairrules.proofs.Partners.{another_is, stack_in_lem, one_stack_lem}
use Rattle.placement.specs.declared.Placement.{Placement}
use Rattle.placement.specs.Placed.{TruckRows, braced_at, unbraced_places, PlacedRows, PlacedStacks}

-- two tests that agree on the places of a truck hold of the same pairs
two_agree : {P Q : ℕ → ℕ → Bool} {start end : ℕ} → ((j k : ℕ) → Inside start end j → Inside start end k → P j k ≡ Q j k)
    → EachTwo (λ j k. P j k ≡ true) start end ↔ EachTwo (λ j k. Q j k ≡ true) start end
two_agree same = (
  (λ two j k a b differ. sym (same j k a b) ∙ two j k a b differ),
  (λ two j k a b differ. same j k a b ∙ two j k a b differ),
)

module _ {m : Limits} {t : List ℕ} {rows : List Row} {on : Block} (h : HoldsRows m t rows) (one : OneTruck (stacks_in m t) on.start on.end) where
  abbrev i : Instance
  i = instance_in m t

  abbrev p : List Stack
  p = stacks_in m t

  abbrev stacks : List Stack
  stacks = block p on.start on.end

  within : (k : ℕ) → k < on.end → k < length p
  within k up = omega (arith, one.within)

  -- each stack has an extent along the trailer and across it
  ends : (k : ℕ) → k < on.end → Ends i (manifest_at p k)
  ends k up = formed_ends i (manifest_at p k) ((meets_formed m i p h.filled.range).stacks (manifest_at p k) (stack_in_lem h k (within k up)))

  extent : (k : ℕ) → k < on.end → (footprint_at rows k).x < (footprint_at rows k).xe
  extent k up = rw (footprint_is h k (within k up)) (ends k up).long

  width : (k : ℕ) → k < on.end → (footprint_at rows k).y < (footprint_at rows k).ye
  width k up = rw (footprint_is h k (within k up)) (ends k up).wide

  begin : (k : ℕ) → k < length p → (footprint_at rows k).x ≡ x (manifest_at p k)
  begin k inside = ap (λ (g : Footprint). g.x) (footprint_is h k inside)

  pub truck_rows : TruckRows rows on
  truck_rows =
      record {
        some = omega (arith, one.some);
        room = omega (arith, one.within, h.room);
        few = omega (arith, one.within, h.filled.range.stack_count, h.filled.bounded.words);
        long = λ k from up. extent k up;
        wide = λ k from up. width k up;
      }

  -- what braces a stack is another one, since a stack does not end where it begins
  braced_by_lem : (k j : ℕ) → Inside on.start on.end k → Inside on.start on.end j → in_contact_at rows k j ≡ braced_by i (manifest_at p k) (manifest_at p j)
  braced_by_lem k j a b =
      let s = manifest_at p k in
      let r = manifest_at p j in
      let lk = within k a.1 in
      let lj = within j b.1 in
      let contact = contact_is h k j lk lj in
      let used : used_by s ≡ used_by r = one.same k a.0 a.1 ∙ sym (one.same j b.0 b.1) in
      same_test (in_contact_at rows k j) (braced_by i s r) (
        (λ e. (and_reads (another s r) (in_contact i s r)).1 (
          (another_is s r).1 (
            used,
            λ q.
                let same = one_stack_lem h s r (stack_in_lem h k lk) (stack_in_lem h j lj) q in
                let begins : (footprint_at rows k).x ≡ (footprint_at rows j).x = begin k lk ∙ ap x same ∙ sym (begin j lj) in
                let ends = eqb-true (footprint_at rows j).xe (footprint_at rows k).x ((and_reads _ _).0 e).0 in
                omega (arith, begins, ends, extent j b.1),
          ),
          sym contact ∙ e,
        )),
        (λ e. contact ∙ ((and_reads (another s r) (in_contact i s r)).0 e).1),
      )

  abbrev places : List ℕ
  places = up_from on.start (on.end - on.start)

  in_places : (k : ℕ) → In k places ↔ Inside on.start on.end k
  in_places k = ((λ m. omega (arith, (in_up_from on.start (on.end - on.start) k).0 m)), (λ a. (in_up_from on.start (on.end - on.start) k).1 (omega arith)))

  braced_is : (k : ℕ) → Inside on.start on.end k → braced_at rows on k ≡ braced i stacks (manifest_at p k)
  braced_is k a =
      let s = manifest_at p k in
      let front = begin k (within k a.1) in
      let any_same = same_test (any (in_contact_at rows k) places) (any (braced_by i s) stacks) (
        (λ e.
            let w = (any_reads (in_contact_at rows k) places).0 e in
            let b = (in_places w.0).0 w.1 in
            (any_reads (braced_by i s) stacks).1 (manifest_at p w.0, block_has one w.0 b, sym (braced_by_lem k w.0 a b) ∙ w.2)),
        (λ e.
            let w = (any_reads (braced_by i s) stacks).0 e in
            let v = block_place one w.0 w.1 in
            let b : Inside on.start on.end v.0 = (v.1, v.2) in
            (any_reads (in_contact_at rows k) places).1 (v.0, (in_places v.0).1 b, braced_by_lem k v.0 a b ∙ sym (ap (braced_by i s) v.3) ∙ w.2)),
      ) in
      ap₂ (λ u v. eqb u 0 || v) front any_same

  -- the same stacks are listed
  placed_at : (k : ℕ) → Inside on.start on.end k
      → only_if (not (braced_at rows on k)) (place (row_at rows k).number 0 0) ≡ only_if (not (braced i stacks (manifest_at p k))) (place (number (manifest_at p k)) 0 0)
  placed_at k a = ap₂ (λ (b : Bool) n. only_if (not b) (place n 0 0)) (braced_is k a) (ap (λ (r : Row). r.number) (row_is h k (within k a.1)))

  unbraced_same : lowest_in (unbraced_places rows on) ≡ lowest_in (stack_places braced no_amount i stacks)
  unfolding stack_places
  unbraced_same = lowest_members _ _ (
    (λ q n.
        let w = (in_flat_map _ places q).0 n in
        let a = (in_places w.0).0 w.1 in
        (in_flat_map _ stacks q).1 (manifest_at p w.0, block_has one w.0 a, subst (In q) (placed_at w.0 a) w.2)),
    (λ q n.
        let w = (in_flat_map _ stacks q).0 n in
        let v = block_place one w.0 w.1 in
        let a : Inside on.start on.end v.0 = (v.1, v.2) in
        let there = subst (λ (s : Stack). In q (only_if (not (braced i stacks s)) (place (number s) 0 0))) v.3 w.2 in
        (in_flat_map _ places q).1 (v.0, (in_places v.0).1 a, subst (In q) (sym (placed_at v.0 a)) there)),
  )

  pub placed_stacks : {r : Placement} → PlacedRows rows on r → PlacedStacks i stacks r
  placed_stacks placed =
      record {
        apart = iff_trans placed.apart (iff_trans (two_agree (λ j k a b. disjoint_is h j k (within j a.1) (within k b.1))) (block_pairs one disjoint i));
        ordered = λ e. iff_trans (placed.ordered e) (iff_trans (two_agree (λ j k a b. order_is h j k (within j a.1) (within k b.1))) (block_pairs one in_loading_order i));
        unordered = placed.unordered;
        unbraced = placed.unbraced ∙ unbraced_same;
      }
