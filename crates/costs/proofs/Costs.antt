-- A sum that is counted along a list, and how large the parts of the cost can be.
use mathlib.Core.Path.{◌≡◌, refl, ap, ◌∙◌}
use mathlib.Core.List.{List, []}
use Prim.Native.Nat.{ℕ, ◌+◌, ◌-◌, ◌*◌, ◌≤◌, ◌<◌}
use native.Mathlib.Nat.{le_trans, mul-le-mul}
use native.Mathlib.Omega.{arith}
use borrow.Author.Tests.{ne_eqb}
use lib.ListN.{length, get_or, drop, drop_of_length-le}
use Rattle.meaning.specs.declared.Limits.{Limits}
use Rattle.meaning.specs.Lists.{sum}
use Rattle.meaning.specs.Model.{Instance, Stack, item, truck_numbered, truck_of, IC, IDL, TC, TDA}
use Rattle.meaning.specs.Table.{stacks_in}
use Rattle.meaning.specs.Verdict.{days_early, transport_cost}
use Rattle.meaning.proofs.Lists.{drop_next}
use Rattle.meaning.proofs.Sums.{sum_constant}
use Rattle.table.specs.Filled.{Filled}
use Rattle.table.proofs.Access.{per_entry_most}
use Rattle.costs.specs.Costs.{used_truck}

-- ---- a sum, as far as element j
-- what is summed and the terms from j on make the whole sum, and no term is above its bound
pub record Summed {A : Type 0} (term bound : A → ℕ) (l : List A) (j total : ℕ) : Type 0 where
  pub upto : j ≤ length l
  pub rest : total + sum term (drop j l) ≡ sum term l
  pub few : total + sum bound (drop j l) ≤ sum bound l

module _ {A : Type 0} {term bound : A → ℕ} {l : List A} where
  pub summed_start : Summed term bound l 0 0
  summed_start = record { upto = omega arith; rest = omega arith; few = omega arith }

  module _ (d : A) {j total r : ℕ} (h : Summed term bound l j total) (more : j < length l) (b : r ≤ bound (get_or l j d)) where
    next_bound : sum bound (drop j l) ≡ bound (get_or l j d) + sum bound (drop (j + 1) l)
    unfolding sum
    next_bound = ap (sum bound) (drop_next l j d more)

    -- one element more
    pub summed_more : r ≡ term (get_or l j d) → Summed term bound l (j + 1) (total + r)
    unfolding sum
    summed_more e =
        let next = ap (sum term) (drop_next l j d more) in
        record { upto = omega arith; rest = omega (arith, next, e, h.rest); few = omega (arith, next_bound, h.few) }

    pub summed_room : total + r ≤ sum bound l
    summed_room = omega (arith, next_bound, h.few)

  pub summed_end : {j total : ℕ} → Summed term bound l j total → length l ≤ j → (total ≡ sum term l) × (total ≤ sum bound l)
  unfolding sum
  summed_end {j} h k =
      let none : drop j l ≡ [] = drop_of_length-le l k in
      let term_none : sum term (drop j l) ≡ 0 = rw none refl in
      (omega (arith, h.rest, term_none), omega (arith, h.few))

-- ---- the inventory cost
-- "IC × (IDL − TDA)" of an item of a stack
abbrev pub item_cost : Instance → Stack → ℕ → ℕ
item_cost i s n = IC (item i n) * days_early i s (item i n)

-- as the code reads it
pub item_cost_lem : (i : Instance) (s : Stack) {k n arrival r : ℕ} → r ≡ IC (item i n) * (IDL (item i n) - arrival) → n ≡ k → arrival ≡ TDA (truck_of i s)
    → r ≡ item_cost i s k
item_cost_lem i s e en ea = e ∙ rw (ea, en) refl

-- a day's cost of an item is at most 100000, and it comes at most 399 days early
abbrev pub item_bound : ℕ → ℕ
item_bound n = 39900000

abbrev pub stack_bound : Stack → ℕ
stack_bound s = 39900000 * length s.load

pub item_bound_lem : {price days latest : ℕ} → price ≤ 100000 → days ≤ latest → latest ≤ 399 → price * days ≤ 39900000
item_bound_lem h k few = mul-le-mul h (le_trans k few)

pub load_bound : (load : List ℕ) → sum item_bound load ≡ 39900000 * length load
load_bound load = sum_constant 39900000 load

-- all loads together hold at most 65536 entries
pub plan_bound : {m : Limits} {t : List ℕ} → Filled m t → sum stack_bound (stacks_in m t) ≤ 2614886400000
plan_bound h = per_entry_most h 39900000

-- ---- the transport cost
pub planned_cost : (i : Instance) (n : ℕ) {copy cost : ℕ} → cost ≡ TC (truck_numbered i n) → copy ≡ 0 → cost * 1000 ≡ transport_cost i (used_truck n copy)
planned_cost i n e planned = rw (e, planned)

pub extra_cost : (i : Instance) (n : ℕ) {copy cost extra : ℕ} → cost ≡ TC (truck_numbered i n) → extra ≡ i.αE → (copy ≡ 0 → ⊥)
    → cost * (1000 + extra) ≡ transport_cost i (used_truck n copy)
extra_cost i n {copy} e f other = rw (e, f, ne_eqb copy 0 other)

pub truck_bound : {cost extra : ℕ} → cost ≤ 1000000 → extra ≤ 1000 → cost * (1000 + extra) ≤ 2000000000
truck_bound {cost} {extra} h k =
    let most : 1000 + extra ≤ 2000 = omega arith in
    mul-le-mul h most
