-- The used trucks of a plan one by one: how many there are, and what they cost together.
use mathlib.Core.Path.{◌≡◌, refl, sym, ap, ◌∙◌}
use mathlib.Core.List.{List, [], ◌∷◌, ◌++◌}
use Prim.Native.Nat.{ℕ, ◌+◌, ◌*◌, ◌≤◌, ◌<◌}
use native.Mathlib.Omega.{arith}
use lib.ListN.{length, drop, drop_of_length-le}
use Rattle.meaning.specs.Lists.{dedup, sum}
use Rattle.meaning.specs.declared.Limits.{Limits}
use Rattle.meaning.specs.Model.{Instance, Stack}
use Rattle.meaning.specs.Table.{instance_in, stacks_in}
use Rattle.meaning.specs.Measures.{UsedTruck, used_by, used_trucks}
use Rattle.meaning.specs.Verdict.{acceptance, transport_cost, inventory_cost, cost}
use Rattle.meaning.proofs.Permute.{length_perm, sum_perm}
use Rattle.meaning.proofs.VerdictOrder.{used_trucks_perm}
use Rattle.manifest.specs.declared.row.Row.{Row}
use Rattle.manifest.specs.Manifest.{manifest_at, in_manifest, block, HoldsRows, OneTruck, Parted, row_at}
use Rattle.manifest.proofs.Reading.{row_is}
use Rattle.manifest.proofs.Order.{manifest_length, manifest_perm}
use Rattle.manifest.proofs.UsedTrucks.{parted_end, block_split, block_length, block_used, block_apart, used_one}
use Rattle.costs.specs.Costs.{used_truck}
use Rattle.judging.specs.Judging.{CountsTrucks}
use Rattle.judging.proofs.Apart.{used_apart}

-- of the used truck of a stack, by its row
pub cost_used : {m : Limits} {t : List ℕ} {rows : List Row} → HoldsRows m t rows → (k : ℕ) → k < length (stacks_in m t)
    → transport_cost (instance_in m t) (used_truck (row_at rows k).truck (row_at rows k).copy)
    ≡ transport_cost (instance_in m t) (used_by (manifest_at (stacks_in m t) k))
cost_used {m} {t} h k inside = ap (λ (r : Row). transport_cost (instance_in m t) (used_truck r.truck r.copy)) (row_is h k inside)

-- ---- the used trucks
-- the used truck of some stacks that stand together, in front of those of the stacks after them
used_more : (i : Instance) {p : List Stack} {start end : ℕ} → OneTruck p start end → Parted p end
    → used_trucks (drop start (in_manifest p)) ≡ used_by (manifest_at p start) ∷ used_trucks (drop end (in_manifest p))
used_more i {p} {start} {end} one parted =
    let stacks = block p start end in
    let rest = drop end (in_manifest p) in
    ap used_trucks (block_split p start end (omega arith)) ∙ used_apart i stacks rest (block_apart one parted)
    ∙ ap (λ (l : List UsedTruck). l ++ used_trucks rest) (used_one (used_by (manifest_at p start)) stacks (omega (arith, block_length one)) (block_used one))

-- the used trucks of the stacks from `end` on, how many they are and what they cost
pub record Counted (i : Instance) (p : List Stack) (end count cost : ℕ) : Type 0 where
  pub parted : Parted p end
  pub counted : count ≡ length (used_trucks (drop end (in_manifest p)))
  pub paid : cost ≡ sum (transport_cost i) (used_trucks (drop end (in_manifest p)))
  pub within : count + end ≤ length p
  pub few : cost ≤ 2000000000 * count

module _ {i : Instance} {p : List Stack} where
  pub counted_start : {end : ℕ} → end ≡ length p → Counted i p end 0 0
  unfolding used_trucks dedup sum
  counted_start {end} e =
      let none : drop end (in_manifest p) ≡ [] = drop_of_length-le (in_manifest p) {i = end} (omega (arith, manifest_length p)) in
      record {
        parted = rw e (parted_end p);
        counted = rw none refl;
        paid = rw none refl;
        within = omega arith;
        few = omega arith;
      }

  -- one used truck more
  pub counted_more : {start end count cost count' cost' : ℕ} → Counted i p end count cost → OneTruck p start end → Parted p start
      → (count' ≡ count + 1) × (cost' ≡ transport_cost i (used_by (manifest_at p start)) + cost) × (cost' ≤ cost + 2000000000) → Counted i p start count' cost'
  unfolding sum
  counted_more h one parted paid =
      let more = used_more i one h.parted in
      record {
        parted = parted;
        counted = omega (arith, ap length more);
        paid = omega (arith, ap (sum (transport_cost i)) more);
        within = omega arith;
        few = omega arith;
      }

  pub counted_end : {end count cost : ℕ} → Counted i p end count cost → end ≤ 0 → length p ≤ 2097152 → CountsTrucks i p count cost
  counted_end {end} h k few =
      let e : end ≡ 0 = omega arith in
      let all = used_trucks_perm i p (in_manifest p) (manifest_perm p) in
      record {
        counted = h.counted ∙ rw e (sym (length_perm all));
        paid = h.paid ∙ rw e (sym (sum_perm (transport_cost i) all));
        few = omega (arith, h.within, h.few);
      }

-- ---- the whole cost
pub accepted : {i : Instance} {p : List Stack} {count paid whole : ℕ} → CountsTrucks i p count paid → whole ≡ i.αT * paid + 1000 * i.αI * sum (inventory_cost i) p
    → acceptance whole count ≡ acceptance (cost i p) (length (used_trucks p))
unfolding cost
accepted h e = rw (e, h.paid, h.counted) refl
