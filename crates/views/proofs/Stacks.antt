-- What the views of a stack are made of, read by read.
use mathlib.Core.Path.{◌≡◌, refl}
use mathlib.Core.List.{List, [], ◌∷◌}
use Prim.Native.Nat.{ℕ, ◌≤◌}
use native.Mathlib.Omega.{arith}
use lib.ListN.{length, get_or, drop}
use Rattle.meaning.specs.declared.Limits.{Limits}
use Rattle.meaning.specs.Lists.{sum, order_in, order_from}
use Rattle.meaning.specs.Model.{Instance, Stack, item, IH, nesting}
use Rattle.meaning.specs.Measures.{sm, height, plant_docks_of}
use Rattle.meaning.specs.Rules.{plant_dock_count}
use Rattle.meaning.specs.Table.{instance_in}
use Rattle.meaning.proofs.Lists.{in_at}
use Rattle.meaning.proofs.Fields.{item_within}
use Rattle.meaning.proofs.Sums.{sum_below, sum_drop}
use Rattle.table.specs.Filled.{Filled, LoadOfItems, ItemNumber}
use Rattle.table.proofs.Access.{item_in}
use Rattle.views.specs.Views.{load_only, size_of}

-- ---- heights: no item nests deeper than it is high
pub nested_less : {m : Limits} {t load : List ℕ} → Filled m t → LoadOfItems (instance_in m t) load → {heights nested : ℕ}
    → heights ≡ sum (λ n. IH (item (instance_in m t) n)) load → nested ≡ sum (λ n. nesting (item (instance_in m t) n)) (drop 1 load) → nested ≤ heights
nested_less {m} {t} {load} h l eh en =
    let high : ℕ → ℕ = λ n. IH (item (instance_in m t) n) in
    let deep : ℕ → ℕ = λ n. nesting (item (instance_in m t) n) in
    let one : (n : ℕ) → ItemNumber (instance_in m t) n → deep n ≤ high n = λ n k. omega (arith, item_within (item (instance_in m t) n) (item_in h n k) 3 (omega arith)) in
    let each = sum_below deep high load (λ n k. let w = in_at 0 load n k in rw w.2 (one _ (l.entries w.0 w.1))) in
    omega (arith, eh, en, sum_drop deep 1 load, each)

-- ---- what a stack's load tells is what the model tells of the stack
pub stack_size : (i : Instance) (s : Stack) → size_of i s.load ≡ record { weight = sm i s; height = height i s }
unfolding size_of
stack_size i s = refl

pub stack_docks : (i : Instance) (s : Stack) → plant_dock_count i (load_only s.load) ≡ plant_dock_count i s
unfolding plant_docks_of
stack_docks i s = refl

-- ---- loading orders
-- in a list of a truck
pub order_is : (v : ℕ) {list l : List ℕ} {r : ℕ} → list ≡ l → length list ≤ 8 → r ≡ order_in list v → r ≤ length list
    → (r ≡ order_in l v) × (r ≤ length l) × (r ≤ 8)
order_is v e few er most = rw (← e) (er, most, omega arith)

-- no dock is listed of a supplier that the truck does not visit
pub dock_unlisted : (docks : List (List ℕ)) (dock : ℕ) {place : ℕ} → place ≡ 0 → 0 ≡ order_in (get_or ([] ∷ docks) place []) dock
unfolding order_from
dock_unlisted docks dock e = rw e refl
