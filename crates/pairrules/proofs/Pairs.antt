-- The tests of rules 17, 23 and 25 on two stacks, as the code asks them and with the stacks exchanged.
use mathlib.Core.Path.{◌≡◌, refl, sym, ◌∙◌}
use mathlib.Core.Logic.{◌↔◌}
use mathlib.Core.Bool.{Bool, true, false, not, ◌&&◌, ◌||◌, and_comm}
use mathlib.Core.List.{List, []}
use Prim.Native.Nat.{ℕ, ◌+◌}
use native.Mathlib.Omega.{arith}
use borrow.Author.Tests.{eq-eqb, ne_eqb}
use lib.Dec.{eqb, leb}
use Rattle.meaning.specs.Model.{Instance, Stack, x, IS}
use Rattle.meaning.specs.Measures.{bottom}
use Rattle.meaning.specs.Rules.{pair_places, plant_dock_count, single_pair, disjoint, loads_before, in_loading_order}
use Rattle.meaning.proofs.Tests.{eq_reads, iff_trans}
use Rattle.meaning.proofs.Lists.{same_turned}
use Rattle.views.specs.declared.Footprint.{Footprint}
use Rattle.views.specs.Views.{footprint_of}
use Rattle.manifest.specs.Manifest.{manifest_at, block, OneTruck}
use Rattle.pairrules.specs.PairRules.{disjoint_footprints, Each}
use Rattle.pairrules.proofs.Places.{behind_enough, block_pairs}
use Rattle.pairrules.proofs.Ranks.{in_front}

-- ---- 17 second pair, as the code asks it: the numbers of plant docks first, the codes where both are two
module _ (i : Instance) (s r : Stack) where
  pub first_not_two : {n : ℕ} → n ≡ plant_dock_count i s → (n ≡ 2 → ⊥) → true ≡ single_pair i s r
  first_not_two e d = rw (ne_eqb (plant_dock_count i s) 2 (rw e at d)) refl

  pub second_not_two : {n : ℕ} → n ≡ plant_dock_count i r → (n ≡ 2 → ⊥) → true ≡ single_pair i s r
  second_not_two e d = rw (ne_eqb (plant_dock_count i r) 2 (rw e at d)) (no_pair (eqb (plant_dock_count i s) 2) _)
    where
      no_pair : (a b : Bool) → true ≡ not (a && false && b)
      no_pair true b = refl
      no_pair false b = refl

  pub both_two : {n m code code' : ℕ} → n ≡ plant_dock_count i s → n ≡ 2 → m ≡ plant_dock_count i r → m ≡ 2 → code ≡ IS (bottom i s) → code' ≡ IS (bottom i r)
      → not (eqb code code') ≡ single_pair i s r
  both_two en n2 em m2 ec ec' = rw (ec, ec', eq-eqb (plant_dock_count i s) 2 (rw en at n2), eq-eqb (plant_dock_count i r) 2 (rw em at m2)) refl

-- ---- rules that are the same for two stacks in both orders
-- two tests each way
pairs_turned : (a b c d : Bool) → (a || b || c || d) ≡ (b || a || d || c)
pairs_turned true true c d = refl
pairs_turned true false c d = refl
pairs_turned false true c d = refl
pairs_turned false false true true = refl
pairs_turned false false true false = refl
pairs_turned false false false true = refl
pairs_turned false false false false = refl

pub single_turned : (i : Instance) (s r : Stack) → single_pair i s r ≡ single_pair i r s
single_turned i s r =
    rw (and_comm (eqb (plant_dock_count i s) 2) (eqb (plant_dock_count i r) 2), same_turned eqb eq_reads (IS (bottom i s)) (IS (bottom i r))) refl

-- so 17 is told by each stack with those behind it
pub single_block : (i : Instance) {p : List Stack} {start end : ℕ} → OneTruck p start end
    → Each (λ j. Each (λ k. single_pair i (manifest_at p j) (manifest_at p k) ≡ true) (j + 1) end) start end ↔ (pair_places single_pair i (block p start end) ≡ [])
single_block i {p} one =
    iff_trans (behind_enough (λ j k e. single_turned i (manifest_at p k) (manifest_at p j) ∙ e)) (block_pairs one single_pair i)

pub footprints_turned : (a b : Footprint) → disjoint_footprints a b ≡ disjoint_footprints b a
footprints_turned a b = pairs_turned (leb a.xe b.x) (leb b.xe a.x) (leb a.ye b.y) (leb b.ye a.y)

pub disjoint_turned : (i : Instance) (s r : Stack) → disjoint i s r ≡ disjoint i r s
disjoint_turned i s r = footprints_turned (footprint_of i s) (footprint_of i r)

-- a stack is in loading order with itself
pub self_in_order : (i : Instance) (s : Stack) → in_loading_order i s s ≡ true
self_in_order i s = sym (in_front (not (loads_before i s s)) (x s) (x s) (omega arith))
