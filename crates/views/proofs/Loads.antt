-- Loops along a load: what is still to come, or what is done, is the rest of the list from a place on.
use mathlib.Core.Path.{◌≡◌, refl, sym, ap, ◌∙◌}
use mathlib.Core.Bool.{Bool, true, false}
use mathlib.Core.List.{List, ◌∷◌, map}
use Prim.Native.Nat.{ℕ, ◌+◌, ◌-◌, ◌*◌, ◌≤◌, ◌<◌}
use native.Mathlib.Nat.{le_trans, mul-le-mul_left}
use native.Mathlib.Numerals.{add-one}
use Rattle.std.proofs.Common.{add_assoc, arith}
use borrow.Author.Tests.{eq-eqb, ne_eqb}
use lib.Dec.{eqb}
use lib.ListN.{length, get_or, take, drop, drop_of_length-le}
use Rattle.std.proofs.lemmas.List.{length-drop, get_or-drop}
use Rattle.std.proofs.Math.Seq.{take-length}
use Rattle.meaning.specs.Lists.{any, sum, dedup, listed, order_in}
use Rattle.meaning.specs.Model.{Instance, item, truck_numbered, IG}
use Rattle.meaning.specs.Measures.{plant_docks_of}
use Rattle.meaning.specs.Rules.{plant_dock_count}
use Rattle.meaning.proofs.Lists.{drop_next, Down, down_start, down_more, down_end}
use Rattle.views.specs.declared.OrderRange.{OrderRange}
use Rattle.views.specs.Views.{load_only, range_with, range_of, plant_dock_orders, plant_docks_from}

-- an entry of the part of a load from a place on
entry_from : (l : List ℕ) (from k : ℕ) → get_or (take (length l - from) (drop from l)) k 0 ≡ get_or l (from + k) 0
entry_from l from k = rw (← length-drop from l, take-length (drop from l)) (get_or-drop from l k 0)

-- ---- a sum, on the way up
pub record Summed (g : ℕ → ℕ) (most : ℕ) (l : List ℕ) (from total j : ℕ) : Type 0 where
  pub upto : j ≤ length l
  pub rest : total + sum g (drop j l) ≡ sum g (drop from l)
  pub few : total ≤ most * j

module _ {g : ℕ → ℕ} {most : ℕ} {l : List ℕ} {from : ℕ} where
  pub summed_more : (k : ℕ) {total r : ℕ} → Summed g most l from total (from + k) → from + k < length l
      → r ≡ g (get_or (take (length l - from) (drop from l)) k 0) → r ≤ most → Summed g most l from (total + r) (from + (k + 1))
  unfolding sum
  summed_more k {total} {r} h more e b =
      let next = ap (sum g) (drop_next l (from + k) 0 more) in
      let one : Summed g most l from (total + r) (from + k + 1) =
      record { upto = omega arith; rest = omega (arith, next, rw (entry_from l from k) at e, h.rest); few = omega (arith, h.few) }
      in
      rw (← add_assoc from k 1) one

  pub summed_end : {total j : ℕ} → Summed g most l from total j → length l ≤ j → length l ≤ 64 → (total ≡ sum g (drop from l)) × (total ≤ most * 64)
  unfolding sum
  summed_end {total} {j} h k few =
      let m : j ≤ 64 = omega (arith, h.upto) in
      let none : sum g (drop j l) ≡ 0 = rw (drop_of_length-le l k) refl in
      (omega (arith, h.rest, none), le_trans h.few (mul-le-mul_left most m))

-- ---- the search for a plant dock, on the way up
pub record Passed (i : Instance) (load : List ℕ) (dock from j : ℕ) : Type 0 where
  pub upto : j ≤ length load
  pub rest : listed dock (plant_docks_from i load j) ≡ listed dock (plant_docks_from i load from)

module _ {i : Instance} {load : List ℕ} {dock from : ℕ} where
  pub passed_start : from ≤ length load → Passed i load dock from from
  passed_start h = record { upto = h; rest = refl }

  module _ (k : ℕ) {r : ℕ} (h : Passed i load dock from (from + k)) (more : from + k < length load)
      (e : r ≡ IG (item i (get_or (take (length load - from) (drop from load)) k 0))) where
    its_plant_dock : r ≡ IG (item i (get_or load (from + k) 0))
    its_plant_dock = rw (entry_from load from k) at e

    pub passed_found : r ≡ dock → true ≡ listed dock (plant_docks_from i load from)
    unfolding plant_docks_from any
    passed_found t = sym (rw (drop_next load (from + k) 0 more) (simp (eq-eqb dock _ (sym t ∙ its_plant_dock)))) ∙ h.rest

    pub passed_more : (r ≡ dock → ⊥) → Passed i load dock from (from + (k + 1))
    unfolding plant_docks_from any
    passed_more t =
        let other = ne_eqb dock _ (λ q. t (its_plant_dock ∙ sym q)) in
        let one : Passed i load dock from (from + k + 1) =
        record { upto = omega arith; rest = sym (rw (drop_next load (from + k) 0 more) (simp other)) ∙ h.rest }
        in
        rw (← add_assoc from k 1) one

  pub passed_end : {j : ℕ} → Passed i load dock from j → length load ≤ j → false ≡ listed dock (plant_docks_from i load from)
  unfolding plant_docks_from any
  passed_end {j} h k = sym (rw (drop_of_length-le load k) refl) ∙ h.rest

-- ---- on the way down
-- the range of the plant dock orders
module _ (i : Instance) (truck : ℕ) where
  unfoldable pub range_over : List ℕ → OrderRange
  unfolding plant_dock_orders range_of
  range_over ns = range_of (plant_dock_orders i truck ns)

  pub range_start : {load : List ℕ} {j : ℕ} → j ≡ length load → Down range_over load j (record { lowest = 8; highest = 0 })
  unfolding range_over
  range_start e = down_start e refl

  pub range_more : {load : List ℕ} {j dock order : ℕ} {docks : List ℕ} {range wider : OrderRange} → Down range_over load j range → 0 < j
      → docks ≡ (truck_numbered i truck).plant_docks → dock ≡ IG (item i (get_or load (j - 1) 0)) → order ≡ order_in docks dock → wider ≡ range_with order range
      → Down range_over load (j - 1) wider
  unfolding range_over
  range_more h k el ed eo ew = down_more 0 h k (ew ∙ rw (eo, el, ed, h.is) refl)

  pub range_end : {load : List ℕ} {j : ℕ} {range : OrderRange} → Down range_over load j range → j ≤ 0 → range ≡ range_of (plant_dock_orders i truck load)
  unfolding range_over
  range_end h k = down_end h k

-- how many plant docks: one is counted where no later item has it
dedup_again : (n : ℕ) (l : List ℕ) → listed n l ≡ true → length (dedup eqb (n ∷ l)) ≡ length (dedup eqb l)
unfolding dedup
dedup_again n l e = rw e refl

dedup_new : (n : ℕ) (l : List ℕ) → listed n l ≡ false → length (dedup eqb (n ∷ l)) ≡ length (dedup eqb l) + 1
unfolding dedup
dedup_new n l e = rw e (sym (add-one _))

unfoldable pub docks_over : Instance → List ℕ → ℕ
docks_over i ns = length (dedup eqb (map (λ n. IG (item i n)) ns))

pub record Counted (i : Instance) (load : List ℕ) (j count : ℕ) : Type 0 where
  pub down : Down (docks_over i) load j count
  pub few : count + j ≤ length load

module _ {i : Instance} {load : List ℕ} where
  pub counted_start : {j : ℕ} → j ≡ length load → Counted i load j 0
  unfolding docks_over dedup
  counted_start e = record { down = down_start e refl; few = omega arith }

  -- `later` says whether an item behind place j - 1 has the dock of the item there
  module _ {j dock count : ℕ} {later : Bool} (h : Counted i load j count) (k : 0 < j) (ed : dock ≡ IG (item i (get_or load (j - 1) 0)))
      (el : later ≡ listed dock (plant_docks_from i load (j - 1 + 1))) where
    its_dock : listed (IG (item i (get_or load (j - 1) 0))) (plant_docks_from i load j) ≡ later
    its_dock =
        let back : j - 1 + 1 ≡ j = omega arith in
        sym (rw back at el ∙ ap (λ n. listed n (plant_docks_from i load j)) ed)

    pub counted_new : later ≡ false → Counted i load (j - 1) (count + 1)
    unfolding docks_over plant_docks_from
    counted_new t =
        let more = dedup_new (IG (item i (get_or load (j - 1) 0))) (plant_docks_from i load j) (its_dock ∙ t) in
        record { down = down_more 0 h.down k (ap (λ n. n + 1) h.down.is ∙ sym more); few = omega (arith, h.few) }

    pub counted_again : later ≡ true → Counted i load (j - 1) count
    unfolding docks_over plant_docks_from
    counted_again t =
        let same = dedup_again (IG (item i (get_or load (j - 1) 0))) (plant_docks_from i load j) (its_dock ∙ t) in
        record { down = down_more 0 h.down k (h.down.is ∙ sym same); few = omega (arith, h.few) }

  pub counted_end : {j count : ℕ} → Counted i load j count → j ≤ 0 → length load ≤ 64 → (count ≡ plant_dock_count i (load_only load)) × (count ≤ 64)
  unfolding docks_over plant_docks_of
  counted_end h k few = (down_end h.down k, omega (arith, h.few))
