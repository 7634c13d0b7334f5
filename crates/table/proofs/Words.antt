-- Which words of the table an item, a truck and a stack of the model are.
use mathlib.Core.Path.{◌≡◌, refl, ap₂, ◌∙◌}
use mathlib.Core.List.{List, [], ◌∷◌}
use Prim.Native.Nat.{ℕ, zero, suc, ◌+◌, ◌-◌, ◌*◌, ◌≤◌, ◌<◌}
use native.Mathlib.Omega.{arith}
use lib.ListN.{length, get_or, take, drop}
use Rattle.meaning.specs.declared.Limits.{Limits}
use Rattle.meaning.specs.Lists.{chunks}
use Rattle.meaning.specs.Limits.{items_at, trucks_at, stacks_at, loads_at}
use Rattle.meaning.specs.Model.{item, no_truck, truck_numbered}
use Rattle.meaning.specs.Table.{cut_lists, truck_in, instance_in, stack_in, stacks_in, truck_place, stack_place}
use Rattle.table.specs.Filled.{no_stack, stack_at, ItemNumber, TruckNumber, item_place}
use Rattle.table.proofs.Parts.{part, part_at, length_part, length_chunks, chunk_at, length_made, made_at}

-- ---- the docks of a truck's row, which stand in rows of eight words
cut_at : (counts : List ℕ) (rows : List (List ℕ)) (k : ℕ) → k < length counts → k < length rows
    → get_or (cut_lists counts rows) k [] ≡ take (get_or counts k 0) (get_or rows k [])
unfolding cut_lists
cut_at [] rows k h l = absurd (omega arith)
cut_at (n ∷ counts) [] k h l = absurd (omega arith)
cut_at (n ∷ counts) (row ∷ rows) zero h l = refl
cut_at (n ∷ counts) (row ∷ rows) (suc k) h l = cut_at counts rows k (omega arith) (omega arith)

pub docks_row : (row : List ℕ) (k : ℕ) → length row ≡ 160 → get_or row 53 0 ≤ 8 → k < get_or row 53 0
    → get_or (truck_in row).docks k [] ≡ take (get_or row (62 + k) 0) (part (70 + 8 * k) 8 row)
unfolding truck_in
docks_row row k e few h =
    let count = get_or row 53 0 in
    cut_at (part 62 count row) (chunks 8 8 (drop 70 row)) k (omega (arith, length_part 62 count row (omega arith)))
    (omega (arith, length_chunks 8 8 (drop 70 row)))
    ∙ ap₂ take (part_at 62 count k row 0 h) (chunk_at 8 8 k 70 row (omega arith))

module _ (m : Limits) (t : List ℕ) where
  -- ---- the counts
  pub items_counted : length (instance_in m t).items ≡ get_or t 3 0
  unfolding instance_in
  items_counted = length_chunks 16 (get_or t 3 0) (drop items_at t)

  pub trucks_counted : length (instance_in m t).trucks ≡ get_or t 4 0
  unfolding instance_in
  trucks_counted = length_made truck_in 160 (get_or t 4 0) (drop (trucks_at m) t)

  pub stacks_counted : length (stacks_in m t) ≡ get_or t 5 0
  unfolding stacks_in
  stacks_counted = length_made (stack_in (drop (loads_at m) t)) 8 (get_or t 5 0) (drop (stacks_at m) t)

  -- ---- the rows
  pub item_row : (n : ℕ) → ItemNumber (instance_in m t) n → item (instance_in m t) n ≡ part (item_place n) 16 t
  unfolding instance_in
  item_row n h = chunk_at 16 (get_or t 3 0) (n - 1) items_at t (omega (arith, h.0, h.1, items_counted))

  pub truck_row : (n : ℕ) → TruckNumber (instance_in m t) n → truck_numbered (instance_in m t) n ≡ truck_in (part (truck_place m n) 160 t)
  unfolding instance_in
  truck_row n h = made_at truck_in 160 (get_or t 4 0) (n - 1) (trucks_at m) t no_truck (omega (arith, h.0, h.1, trucks_counted))

  pub stack_row : (s : ℕ) → s < length (stacks_in m t) → stack_at (stacks_in m t) s ≡ stack_in (drop (loads_at m) t) (part (stack_place m s) 8 t)
  unfolding stacks_in
  stack_row s h = made_at (stack_in (drop (loads_at m) t)) 8 (get_or t 5 0) s (stacks_at m) t no_stack (omega (arith, h, stacks_counted))
