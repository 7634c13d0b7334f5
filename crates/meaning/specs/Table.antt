-- Document 01, "The working table": the model as words, and the model that words hold. Where a word stands is said here alone.
use mathlib.Core.List.{List, [], ◌∷◌, ◌++◌, map, flat_map}
use Rattle.std.specs.Prelude.{ℕ, ◌+◌, ◌-◌, ◌*◌, length, get_or, take, drop, replicate}
use Rattle.meaning.specs.declared.Limits.{Limits}
use Rattle.meaning.specs.Lists.{chunks, padded}
use Rattle.meaning.specs.Limits.{items_at, trucks_at, stacks_at, loads_at}
use Rattle.meaning.specs.Model.{Instance, Truck, Stack, Item}

-- "The working table is a lent run of 32-bit unsigned words"
abbrev pub largest_word : ℕ
largest_word = 4294967295

-- ---- the words of a model
-- "0..5: αT, αI, αE, items, trucks, stacks"
unfoldable pub head_words : Instance → List Stack → List ℕ
head_words i p = i.αT ∷ i.αI ∷ i.αE ∷ length i.items ∷ length i.trucks ∷ length p ∷ []

-- entries behind their count, in w words besides
abbrev pub counted_words : ℕ → List ℕ → List ℕ
counted_words w l = length l ∷ padded w l

-- the words behind a truck's plant docks, which belong to no line: "Other named words are zero"
abbrev pub spare_words : ℕ
spare_words = 17

-- "20 fields; 20 product count, 21 products; 53 supplier count, 54 suppliers; 62 dock counts; 70 docks, 8 per supplier;
-- 134 plant dock count, 135 plant docks", 160 in all with the spare words
unfoldable pub truck_words : Truck → List ℕ
unfolding flat_map
truck_words t =
    t.fields
    ++ (counted_words 32 t.products
    ++ (counted_words 8 t.suppliers
    ++ (padded 8 (map length t.docks)
    ++ (padded 64 (flat_map (padded 8) t.docks)
    ++ (counted_words 8 t.plant_docks
    ++ replicate spare_words 0)))))

-- "stacks in file order, 8 each: six fields, first load index (among the loads, from 0), load count"; `before` entries stand before
unfoldable pub stack_words : ℕ → List Stack → List ℕ
stack_words before [] = []
stack_words before (s ∷ p) = (s.fields ++ (before ∷ length s.load ∷ [])) ++ stack_words (before + length s.load) p

-- the item numbers of all loads, in file order
unfoldable pub load_entries : List Stack → List ℕ
unfolding flat_map
load_entries p = flat_map (λ (s : Stack). s.load) p

-- the named words; "Other named words are zero"
unfoldable pub words : Limits → Instance → List Stack → List ℕ
unfolding flat_map head_words truck_words stack_words load_entries
words m i p =
    padded items_at (head_words i p)
    ++ (padded (16 * m.items) (flat_map (λ (a : Item). a) i.items)
    ++ (padded (160 * m.trucks) (flat_map truck_words i.trucks)
    ++ (padded (8 * m.stacks) (stack_words 0 p)
    ++ padded m.loads (load_entries p))))

-- ---- where some words stand in a table
-- the first word of a truck
abbrev pub truck_place : Limits → ℕ → ℕ
truck_place m n = trucks_at m + 160 * (n - 1)

-- "62 dock counts": how many docks the k-th supplier of a truck has, from 0
abbrev pub dock_count : Limits → List ℕ → ℕ → ℕ → ℕ
dock_count m t n k = get_or t (truck_place m n + 62 + k) 0

-- the first word of a stack
abbrev pub stack_place : Limits → ℕ → ℕ
stack_place m s = stacks_at m + 8 * s

-- "first load index (among the loads, from 0)"
abbrev pub load_first : Limits → List ℕ → ℕ → ℕ
load_first m t s = get_or t (stack_place m s + 6) 0

-- "load count"
abbrev pub load_count : Limits → List ℕ → ℕ → ℕ
load_count m t s = get_or t (stack_place m s + 7) 0

-- ---- the model that words hold
-- of each list as many words as its count says
unfoldable pub cut_lists : List ℕ → List (List ℕ) → List (List ℕ)
cut_lists [] lists = []
cut_lists (n ∷ counts) [] = []
cut_lists (n ∷ counts) (l ∷ lists) = take n l ∷ cut_lists counts lists

-- the truck of 160 words
unfoldable pub truck_in : List ℕ → Truck
unfolding cut_lists chunks
truck_in t =
    record {
      fields = take 20 t;
      products = take (get_or t 20 0) (drop 21 t);
      suppliers = take (get_or t 53 0) (drop 54 t);
      docks = cut_lists (take (get_or t 53 0) (drop 62 t)) (chunks 8 8 (drop 70 t));
      plant_docks = take (get_or t 134 0) (drop 135 t);
    }

-- the instance of a table
unfoldable pub instance_in : Limits → List ℕ → Instance
unfolding chunks truck_in
instance_in m t =
    record {
      αT = get_or t 0 0;
      αI = get_or t 1 0;
      αE = get_or t 2 0;
      items = chunks 16 (get_or t 3 0) (drop items_at t);
      trucks = map truck_in (chunks 160 (get_or t 4 0) (drop (trucks_at m) t));
    }

-- the stack of eight words, whose load is a run of the loads
unfoldable pub stack_in : List ℕ → List ℕ → Stack
stack_in loads eight = record { fields = take 6 eight; load = take (get_or eight 7 0) (drop (get_or eight 6 0) loads) }

-- the stacks of a table
unfoldable pub stacks_in : Limits → List ℕ → List Stack
unfolding chunks stack_in
stacks_in m t = map (stack_in (drop (loads_at m) t)) (chunks 8 (get_or t 5 0) (drop (stacks_at m) t))
