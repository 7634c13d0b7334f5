-- The test of a table's words part by part, as the code takes them. That all parts together tell what `stored` tells is proved (proofs/Whole).
use Rattle.std.specs.Prelude.{◌≡◌, Bool, true, false, cond, not, ◌&&◌, Option, None, Some, List, [], ◌∷◌, ℕ, ◌+◌, ◌*◌, ◌≤◌, leb, eqb, length, get_or, take, drop}
use Rattle.std.proofs.Math.Option.{Option as Maybe, none, some}
use Rattle.meaning.specs.declared.Limits.{Limits}
use Rattle.meaning.specs.declared.Place.{Place}
use Rattle.meaning.specs.Lists.{any, all, between, listed, distinct, chunks, up_from}
use Rattle.meaning.specs.Limits.{named, trucks_at, stacks_at, loads_at}
use Rattle.meaning.specs.Places.{lowest}
use Rattle.meaning.specs.Files.{all_within, item_ranges, truck_ranges, stack_ranges}
use Rattle.meaning.specs.Check.{code_clashes}
use Rattle.meaning.specs.Claims.{instance_most, plan_most}
use Rattle.table.specs.Filled.{Bounded}
use Rattle.ranges.specs.Ranges.{head_range}
use Rattle.ranges.specs.Clashes.{items_in}

-- limits for which every model in range has files short enough, so that no length need be tested
pub record PrintRoom (m : Limits) : Type 0 where
  pub bounded : Bounded m
  pub instance : instance_most m ≤ m.bytes
  pub plan : plan_most m ≤ m.bytes

-- "Other named words are zero"
abbrev pub zeros : List ℕ → Bool
zeros ws = all (between 0 0) ws

-- so many entries at the front of their words, and zeros behind them
unfoldable pub entries_stored : ℕ → List ℕ → Bool
unfolding all distinct
entries_stored n ws = between 1 (length ws) n && (all (between 1 65535) (take n ws) && distinct (take n ws)) && zeros (drop n ws)

-- what a test of rows of one width answers, by what it tells of their words
abbrev pub RowTest : (List ℕ → Bool → Type 0) → ℕ → (List ℕ → Bool) → Type 0
RowTest answers width passes = (row : List ℕ) (r : Bool) → length row ≡ width → answers row r → r ≡ passes row

-- so many rows that pass their test, and zeros behind them
abbrev pub rows_stored : (List ℕ → Bool) → ℕ → ℕ → List ℕ → Bool
rows_stored test w n ws = all test (chunks w n ws) && zeros (drop (w * n) ws)

-- ---- the parts
-- the head: six numbers in their ranges
unfoldable pub head_stored : Limits → List ℕ → Bool
unfolding all up_from
head_stored m ws = all (λ k. between (head_range m k).low (head_range m k).high (get_or ws k 0)) (up_from 0 6) && zeros (drop 6 ws)

-- an item's 16 words
abbrev pub item_stored : List ℕ → Bool
item_stored ws = all_within (item_ranges ws) ws

-- the docks of so many suppliers: each list behind its count, in a row of eight words
unfoldable pub docks_stored : ℕ → List ℕ → List ℕ → Bool
unfolding all up_from entries_stored
docks_stored n counts rows =
    all (λ k. entries_stored (get_or counts k 0) (take 8 (drop (8 * k) rows))) (up_from 0 n) && (zeros (drop n counts) && zeros (drop (8 * n) rows))

-- a truck's 160 words
unfoldable pub truck_stored : List ℕ → Bool
unfolding all all_within entries_stored docks_stored
truck_stored ws =
    all_within truck_ranges (take 20 ws)
    && (entries_stored (get_or ws 20 0) (take 32 (drop 21 ws))
    && (entries_stored (get_or ws 53 0) (take 8 (drop 54 ws))
    && (docks_stored (get_or ws 53 0) (take 8 (drop 62 ws)) (take 64 (drop 70 ws))
    && (entries_stored (get_or ws 134 0) (take 8 (drop 135 ws)) && zeros (drop 143 ws)))))

-- a stack's eight words, where the loads before hold `loaded` entries and all together at most `most`
abbrev pub stack_stored : ℕ → ℕ → ℕ → List ℕ → Bool
stack_stored most trucks loaded ws =
    all_within (stack_ranges trucks) (take 6 ws) && between 1 64 (get_or ws 7 0) && (eqb (get_or ws 6 0) loaded && leb (loaded + get_or ws 7 0) most)

-- how many entries the loads of some rows hold, where each is a stack's and has a number that is not one of the `earlier` ones
unfoldable pub entries_of : ℕ → ℕ → List ℕ → ℕ → List (List ℕ) → Maybe ℕ
unfolding any all_within
entries_of most trucks earlier loaded [] = some loaded
entries_of most trucks earlier loaded (row ∷ rows) =
    let later = entries_of most trucks (get_or row 0 0 ∷ earlier) (loaded + get_or row 7 0) rows in
    cond (stack_stored most trucks loaded row && not (listed (get_or row 0 0) earlier)) later none

-- what is answered of the rows of the stacks
abbrev pub loaded_by : Option ℕ → Maybe ℕ
loaded_by (Some n) = some n
loaded_by None = none

-- there are as many words as entries
abbrev pub LoadedWithin : ℕ → Option ℕ → Type 0
LoadedWithin room (Some n) = n ≤ room
LoadedWithin room None = Unit {0}

-- the loads: item numbers as far as the stacks' loads go
unfoldable pub loads_stored : ℕ → List ℕ → Maybe ℕ → Bool
unfolding all
loads_stored items ws none = false
loads_stored items ws (some n) = all (between 1 items) (take n ws) && zeros (drop n ws)

-- ---- the table
-- the counts of the head are within the limits, so their rows stand in the table
pub record CountsWithin (m : Limits) (t : List ℕ) : Type 0 where
  pub items : get_or t 3 0 ≤ m.items
  pub trucks : get_or t 4 0 ≤ m.trucks
  pub stacks : get_or t 5 0 ≤ m.stacks

-- the words of all items, of all trucks, of all stacks, of all loads
abbrev pub items_part : Limits → List ℕ → List ℕ
items_part m t = take (16 * m.items) (drop 16 t)

abbrev pub trucks_part : Limits → List ℕ → List ℕ
trucks_part m t = take (160 * m.trucks) (drop (trucks_at m) t)

abbrev pub stacks_part : Limits → List ℕ → List ℕ
stacks_part m t = take (8 * m.stacks) (drop (stacks_at m) t)

abbrev pub loads_part : Limits → List ℕ → List ℕ
loads_part m t = take m.loads (drop (loads_at m) t)

-- no place is the lowest
abbrev pub nowhere : Maybe Place → Bool
nowhere none = true
nowhere (some q) = false

-- items and trucks
unfoldable pub instance_stored : Limits → List ℕ → Bool
unfolding all chunks all_within truck_stored lowest code_clashes
instance_stored m t =
    rows_stored item_stored 16 (get_or t 3 0) (items_part m t)
    && (rows_stored truck_stored 160 (get_or t 4 0) (trucks_part m t)
    && nowhere (lowest (code_clashes (items_in (get_or t 3 0) (items_part m t)))))

-- stacks and loads
unfoldable pub plan_stored : Limits → List ℕ → Bool
unfolding all chunks entries_of loads_stored
plan_stored m t =
    loads_stored (get_or t 3 0) (loads_part m t) (entries_of m.loads (get_or t 4 0) [] 0 (chunks 8 (get_or t 5 0) (stacks_part m t)))
    && zeros (drop (8 * get_or t 5 0) (stacks_part m t))

-- the named words
unfoldable pub whole_stored : Limits → List ℕ → Bool
unfolding head_stored instance_stored plan_stored
whole_stored m t = leb (named m) (length t) && (head_stored m (take 16 t) && (instance_stored m t && plan_stored m t))
