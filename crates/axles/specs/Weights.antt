-- The stacks of a used truck, by their rows: which are on at a departure, their weight and levers; the two axles; the places.
use Rattle.std.specs.Prelude.{◌≡◌, Bool, not, ◌&&◌, List, ℕ, ◌+◌, ◌*◌, ◌≤◌, ◌<◌, ℤ, pos, ◌+ℤ◌, ◌-ℤ◌, ◌*ℤ◌, length}
use Rattle.std.specs.Int.Signed.{le_z}
use Rattle.meaning.specs.Lists.{any, filter, between, sum, sumℤ}
use Rattle.meaning.specs.Model.{Instance, Truck, Stack, CM, CJfm, CJfc, CJfh, EM, EJhr, EJcr, EJeh, EMmr, EMmm}
use Rattle.meaning.specs.Rules.{truck_places, departure_places, within_load_limit, middle_axle_holds, rear_axle_holds}
use Rattle.search.specs.Lowest.{lowest_in}
use Rattle.manifest.specs.Manifest.{row_at}
use Rattle.manifest.specs.declared.row.Row.{Row}
use Rattle.axles.specs.declared.AxleData.{AxleData}
use Rattle.axles.specs.declared.WeightPlaces.{WeightPlaces}

-- ---- the stacks that are on at a departure
-- whether a stack is on: its supplier's loading order is from 1 to the departure's number
abbrev pub is_on : ℕ → Row → Bool
is_on departure r = between 1 departure r.rank.supplier_order

-- those that are on
abbrev pub on_at : ℕ → List Row → List Row
on_at departure rows = filter (is_on departure) rows

-- ---- weights and levers
-- the weight of stacks
abbrev pub weight_of : List Row → ℕ
weight_of rows = sum (λ (r : Row). r.weight) rows

-- "sm × (2A − x − xe)", where `twice` is 2A
unfoldable pub lever_by : ℕ → ℕ → ℕ → ℕ → ℤ
lever_by weight x xe twice = pos weight *ℤ (pos twice -ℤ pos x -ℤ pos xe)

-- the lever of a stack
abbrev pub lever_of : ℕ → Row → ℤ
lever_of twice r = lever_by r.weight r.footprint.x r.footprint.xe twice

-- the levers of stacks
abbrev pub levers_of : ℕ → List Row → ℤ
levers_of twice rows = sumℤ (lever_of twice) rows

-- a row whose numbers are within the bounds of a filled table
pub record BoundedRow (r : Row) : Type 0 where
  pub weight : r.weight ≤ 3200000
  pub x : r.footprint.x ≤ 20000
  pub xe : r.footprint.xe ≤ 40000

-- the rows of a used truck are such, and together weigh no more than a plan can
pub record BoundedRows (rows : List Row) : Type 0 where
  pub each : (k : ℕ) → k < length rows → BoundedRow (row_at rows k)
  pub weight : weight_of rows ≤ 3276800000

-- ---- the axles
-- what the axles' rules ask of a truck; "A = EJeh + EJhr"
abbrev pub axle_data : Truck → AxleData
axle_data t = record {
  cm = CM t;
  cjfm = CJfm t;
  cjfc = CJfc t;
  cjfh = CJfh t;
  em = EM t;
  ejhr = EJhr t;
  ejcr = EJcr t;
  emmr = EMmr t;
  emmm = EMmm t;
  twice = 2 * (EJeh t + EJhr t);
}

-- within the bounds of a filled table
pub record BoundedAxles (a : AxleData) : Type 0 where
  pub cm : a.cm ≤ 50000
  pub cjfm : a.cjfm ≤ 20000
  pub cjfc : a.cjfc ≤ 20000
  pub cjfh : a.cjfh ≤ 20000
  pub em : a.em ≤ 50000
  pub ejhr : a.ejhr ≤ 20000
  pub ejcr : a.ejcr ≤ 20000
  pub emmr : a.emmr ≤ 50000
  pub emmm : a.emmm ≤ 50000
  pub twice : a.twice ≤ 80000

-- "H = sum of sm × (2A − x − xe) + 2 × EM × EJcr", by the sum; in a contract the name H is taken
abbrev pub moment_by : ℤ → AxleData → ℤ
moment_by levers a = levers +ℤ pos 2 *ℤ pos a.em *ℤ pos a.ejcr

-- "2 × EJhr × CM × CJfc + H × CJfh ≤ 2 × EJhr × CJfm × EMmm"
unfoldable pub middle_holds : ℤ → AxleData → Bool
middle_holds h a =
    le_z (pos 2 *ℤ pos a.ejhr *ℤ pos a.cm *ℤ pos a.cjfc +ℤ h *ℤ pos a.cjfh) (pos 2 *ℤ pos a.ejhr *ℤ pos a.cjfm *ℤ pos a.emmm)

-- "2 × EJhr × (weight on + EM) − H ≤ 2 × EJhr × EMmr"
unfoldable pub rear_holds : ℤ → ℕ → AxleData → Bool
rear_holds h weight a = le_z (pos 2 *ℤ pos a.ejhr *ℤ (pos weight +ℤ pos a.em) -ℤ h) (pos 2 *ℤ pos a.ejhr *ℤ pos a.emmr)

-- the middle axle holds under these stacks
abbrev pub middle_under : AxleData → List Row → Bool
middle_under a rows = middle_holds (moment_by (levers_of a.twice rows) a) a

-- the rear axle does
abbrev pub rear_under : AxleData → List Row → Bool
rear_under a rows = rear_holds (moment_by (levers_of a.twice rows) a) (weight_of rows) a

-- an axle is exceeded at a departure: a stack is on, and the axle does not hold under those that are
abbrev pub exceeds : (AxleData → List Row → Bool) → List Row → AxleData → ℕ → Bool
exceeds holds rows a departure = any (is_on departure) rows && not (holds a (on_at departure rows))

-- ---- the places
-- the lowest places of the three rules in a plan
pub record LowestPlaces (i : Instance) (p : List Stack) (r : WeightPlaces) : Type 0 where
  pub overload : r.overload ≡ lowest_in (truck_places within_load_limit i p)
  pub middle : r.middle ≡ lowest_in (departure_places middle_axle_holds i p)
  pub rear : r.rear ≡ lowest_in (departure_places rear_axle_holds i p)
