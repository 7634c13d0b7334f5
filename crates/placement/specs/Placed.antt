-- Where the stacks of a used truck stand on its floor: what is told of their rows, and what that says of the stacks.
use Rattle.std.specs.Prelude.{◌≡◌, ◌↔◌, Bool, true, false, not, ◌||◌, ℕ, ◌-◌, ◌≤◌, ◌<◌, eqb, length}
use mathlib.Core.List.{List, [], flat_map}
use Rattle.meaning.specs.declared.Place.{Place}
use Rattle.meaning.specs.Lists.{any, only_if, up_from}
use Rattle.meaning.specs.Model.{Instance, Stack}
use Rattle.meaning.specs.Places.{place}
use Rattle.meaning.specs.Rules.{pair_places, stack_places, disjoint, braced, no_amount, in_loading_order}
use Rattle.search.specs.Lowest.{lowest_in}
use Rattle.manifest.specs.declared.Block.{Block}
use Rattle.manifest.specs.declared.row.Row.{Row}
use Rattle.manifest.specs.Manifest.{row_at, footprint_at}
use Rattle.pairrules.specs.PairRules.{disjoint_at, in_contact_at, in_order_at, EachTwo, SortedRows}
use Rattle.placement.specs.declared.Placement.{Placement}

-- the rows of a used truck, whose stacks have an extent along the trailer and across it
pub record TruckRows (rows : List Row) (on : Block) : Type 0 where
  pub some : on.start ≤ on.end
  pub room : on.end ≤ length rows
  pub few : on.end ≤ 16777216
  pub long : (k : ℕ) → on.start ≤ k → k < on.end → (footprint_at rows k).x < (footprint_at rows k).xe
  pub wide : (k : ℕ) → on.start ≤ k → k < on.end → (footprint_at rows k).y < (footprint_at rows k).ye

-- and their places along the trailer, by ascending x
pub record RowsByX (rows : List Row) (on : Block) (along : List ℕ) : Type 0 where
  pub truck : TruckRows rows on
  pub sorted : SortedRows rows on (λ (r : Row). r.footprint.x) along

-- 24 unbraced, P3: the stack at place k stands at the front wall, or is in contact with one that ends where it begins
abbrev pub braced_at : List Row → Block → ℕ → Bool
braced_at rows on k = eqb (footprint_at rows k).x 0 || any (in_contact_at rows k) (up_from on.start (on.end - on.start))

-- where that fails
abbrev pub unbraced_places : List Row → Block → List Place
unbraced_places rows on =
    flat_map (λ k. only_if (not (braced_at rows on k)) (place (row_at rows k).number 0 0)) (up_from on.start (on.end - on.start))

-- the answer on rows; the order is told where no two overlap, and else the answer is no
pub record PlacedRows (rows : List Row) (on : Block) (r : Placement) : Type 0 where
  pub apart : (r.apart ≡ true) ↔ EachTwo (λ j k. disjoint_at rows j k ≡ true) on.start on.end
  pub ordered : r.apart ≡ true → ((r.in_order ≡ true) ↔ EachTwo (λ j k. in_order_at rows j k ≡ true) on.start on.end)
  pub unordered : r.apart ≡ false → r.in_order ≡ false
  pub unbraced : r.unbraced ≡ lowest_in (unbraced_places rows on)

-- and on stacks: whether 23 overlap and 25 order are kept, and where 24 unbraced is broken first
pub record PlacedStacks (i : Instance) (p : List Stack) (r : Placement) : Type 0 where
  pub apart : (r.apart ≡ true) ↔ (pair_places disjoint i p ≡ [])
  pub ordered : r.apart ≡ true → ((r.in_order ≡ true) ↔ (pair_places in_loading_order i p ≡ []))
  pub unordered : r.apart ≡ false → r.in_order ≡ false
  pub unbraced : r.unbraced ≡ lowest_in (stack_places braced no_amount i p)
