-- The tests of the rules on two stacks on what the rows keep of a stack, and the places of the rows that are asked.
use Rattle.std.specs.Prelude.{◌≡◌, ◌⊎◌, Bool, not, ◌&&◌, ◌||◌, List, ℕ, ◌+◌, ◌-◌, ◌≤◌, ◌<◌, min, max, leb, ltb, eqb, length, get_or, take}
use Rattle.meaning.specs.Lists.{up_from}
use Rattle.views.specs.declared.Footprint.{Footprint}
use Rattle.views.specs.declared.Rank.{Rank}
use Rattle.manifest.specs.declared.Block.{Block}
use Rattle.manifest.specs.declared.row.Row.{Row}
use Rattle.manifest.specs.Manifest.{sort_by, row_at, footprint_at, rank_at, RunBefore, RunBehind}
use Rattle.rules.specs.declared.PairRule.{PairRule}
use Rattle.rules.specs.declared.PairRule.TheVariants.{SecondPair, Overlap, Order}

-- ---- the tests
-- P2 on the ground that two stacks take
abbrev pub disjoint_footprints : Footprint → Footprint → Bool
disjoint_footprints a b = leb a.xe b.x || leb b.xe a.x || leb a.ye b.y || leb b.ye a.y

-- F-2 on the ground that two stacks take: 100 mm, or the narrower of the two where that is below 100
abbrev pub least_footprint_edge : Footprint → Footprint → ℕ
least_footprint_edge a b = min 100 (min (a.ye - a.y) (b.ye - b.y))

-- P3 on the ground that two stacks take: b ends at the x of a, and the common part of their y ranges is long enough
abbrev pub footprints_in_contact : Footprint → Footprint → Bool
footprints_in_contact a b = eqb b.xe a.x && leb (max a.y b.y + least_footprint_edge a b) (min a.ye b.ye)

-- P4 on the ranks of two stacks: every plant dock order is at most another's where the highest is at most the lowest
abbrev pub ranks_before : Rank → Rank → Bool
ranks_before a b =
    ltb a.supplier_order b.supplier_order || (eqb a.supplier b.supplier && ltb a.dock_order b.dock_order)
    || (eqb a.supplier b.supplier && eqb a.dock b.dock && leb a.highest b.lowest && not (leb b.highest a.lowest))

-- 23 on the stacks at two places of the rows
abbrev pub disjoint_at : List Row → ℕ → ℕ → Bool
disjoint_at rows a b = disjoint_footprints (footprint_at rows a) (footprint_at rows b)

-- 24: b ends where a begins, in contact with it
abbrev pub in_contact_at : List Row → ℕ → ℕ → Bool
in_contact_at rows a b = footprints_in_contact (footprint_at rows a) (footprint_at rows b)

-- 25
abbrev pub in_order_at : List Row → ℕ → ℕ → Bool
in_order_at rows a b = not (ranks_before (rank_at rows a) (rank_at rows b)) || leb (row_at rows a).footprint.x (row_at rows b).footprint.x

-- ---- places of the rows
-- a place from `start` up to `end`
abbrev pub Inside : ℕ → ℕ → ℕ → Type 0
Inside start end k = (start ≤ k) × (k < end)

-- what holds of each of these places
abbrev pub Each : (ℕ → Type 0) → ℕ → ℕ → Type 0
Each P start end = (k : ℕ) → start ≤ k → k < end → P k

-- and of each two of them
abbrev pub EachTwo : (ℕ → ℕ → Type 0) → ℕ → ℕ → Type 0
EachTwo P start end = (j k : ℕ) → Inside start end j → Inside start end k → (j ≡ k → ⊥) → P j k

-- answers by a row, which are always its key
abbrev pub Tells : (Row → ℕ → Type 0) → (Row → ℕ) → Type 0
Tells answers key = (row : Row) (r : ℕ) → answers row r → r ≡ key row

-- `order` has the places of a block, counted from its start, by ascending key of their rows
pub record SortedRows (rows : List Row) (on : Block) (key : Row → ℕ) (order : List ℕ) : Type 0 where
  pub room : on.end - on.start ≤ length order
  pub is : take (on.end - on.start) order ≡ sort_by (λ k. key (row_at rows (on.start + k))) (up_from 0 (on.end - on.start))

-- the k-th place in this order
abbrev pub place_at : Block → List ℕ → ℕ → ℕ
place_at on order k = on.start + get_or order k 0

-- all stacks of the rows
abbrev pub whole_plan : ℕ → Block
whole_plan count = record { start = 0; end = count }

-- the stacks on the used truck of the stack at place a, among the first `count`
pub record BlockOf (rows : List Row) (a count : ℕ) (on : Block) : Type 0 where
  pub before : RunBefore rows on.start (a + 1)
  pub behind : RunBehind rows a on.end count

-- those of some stack, or none
abbrev pub KnownBlock : List Row → ℕ → Block → Type 0
KnownBlock rows count on = (on.end ≡ 0) ⊎ ((a : ℕ) × BlockOf rows a count on)

-- where the partners begin that the stack at place a is asked with: for a rule that is the same in both orders behind it, else where its
-- used truck begins
abbrev pub first_partner : PairRule → ℕ → ℕ → ℕ
first_partner SecondPair a start = a + 1
first_partner Overlap a start = a + 1
first_partner Order a start = start
