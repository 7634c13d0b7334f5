-- What every reader of the working table may lean on, and how large what it reads can be.
use Rattle.std.specs.Prelude.{List, [], ◌∷◌, ℕ, ◌+◌, ◌-◌, ◌*◌, ◌≤◌, ◌<◌, length, get_or}
use Rattle.meaning.specs.declared.Limits.{Limits}
use Rattle.meaning.specs.Limits.{items_at, named}
use Rattle.meaning.specs.Model.{Instance, Stack, Truck}
use Rattle.meaning.specs.Table.{instance_in, stacks_in, dock_count, load_first, load_count}
use Rattle.meaning.specs.Meets.{FilesMeet}

-- an item has this number: "Items and trucks are numbered from 1 in file order"
abbrev pub ItemNumber : Instance → ℕ → Type 0
ItemNumber i n = (1 ≤ n) × (n ≤ length i.items)

-- a truck has this number
abbrev pub TruckNumber : Instance → ℕ → Type 0
TruckNumber i n = (1 ≤ n) × (n ≤ length i.trucks)

-- limits small enough that places, lines and sums of weights fit their numbers
pub record Bounded (m : Limits) : Type 0 where
  pub words : named m ≤ 16777216
  pub bytes : m.bytes ≤ 16777216
  pub loads : m.loads ≤ 65536

-- the table has room for the named words
pub record Room (m : Limits) (t : List ℕ) : Type 0 where
  pub bounded : Bounded m
  pub room : named m ≤ length t

-- the table has room for the named words and holds a model in range, whose dock lists stand within their rows and whose loads stand
-- within the words of the loads
pub record Filled (m : Limits) (t : List ℕ) : Type 0 where
  pub bounded : Bounded m
  pub room : named m ≤ length t
  pub range : FilesMeet m (instance_in m t) (stacks_in m t)
  pub docks : (n k : ℕ) → TruckNumber (instance_in m t) n → k < 8 → dock_count m t n k ≤ 8
  pub loads : (s : ℕ) → s < length (stacks_in m t) → load_first m t s + load_count m t s ≤ m.loads

-- a load of items: 1 to 64 entries, each the number of one
pub record LoadOfItems (i : Instance) (load : List ℕ) : Type 0 where
  pub some : 1 ≤ length load
  pub few : length load ≤ 64
  pub entries : (j : ℕ) → j < length load → ItemNumber i (get_or load j 0)

-- the first word of an item
abbrev pub item_place : ℕ → ℕ
item_place n = items_at + 16 * (n - 1)

-- the stack of a place where there is none
abbrev pub no_stack : Stack
no_stack = record { fields = []; load = [] }

-- a stack by its place in the plan's file, from 0
abbrev pub stack_at : List Stack → ℕ → Stack
stack_at p s = get_or p s no_stack

-- the docks of a truck's supplier, by the supplier's loading order
abbrev pub docks_at_order : Truck → ℕ → List ℕ
docks_at_order t k = get_or t.docks (k - 1) []

-- a bound of each field of an item in range, by its place in the line, for sums and products of fields
abbrev pub item_most : ℕ → ℕ
item_most f =
    get_or
    (20000 ∷ 20000 ∷ 20000 ∷ 20000 ∷ 50000 ∷ 65535 ∷ 64 ∷ 65535 ∷ 2 ∷ 399 ∷ 399 ∷ 65535 ∷ 65535 ∷ 65535 ∷ 65535 ∷ 100000 ∷ [])
    f 0

-- the same of a truck
abbrev pub truck_most : ℕ → ℕ
truck_most f =
    get_or (
    20000 ∷ 20000 ∷ 20000 ∷ 50000 ∷ 65535 ∷ 399 ∷ 50000 ∷ 1 ∷ 100000 ∷ 1000000 ∷ 50000 ∷ 20000 ∷ 20000 ∷ 20000 ∷ 50000
    ∷ 20000 ∷ 20000 ∷ 20000 ∷ 50000 ∷ 50000 ∷ []
    ) f 0

-- the same of a stack; its truck is one of those that `Bounded` limits leave room for
abbrev pub stack_most : ℕ → ℕ
stack_most f = get_or (65535 ∷ 16777216 ∷ 99 ∷ 20000 ∷ 20000 ∷ 2 ∷ []) f 0
