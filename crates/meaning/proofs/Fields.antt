-- Each field of a line that was read lies in its range.
use mathlib.Core.Path.{◌≡◌}
use mathlib.Core.Bool.{true, not}
use mathlib.Core.List.{List, [], ◌∷◌}
use Prim.Native.Nat.{ℕ, zero, suc, ◌≤◌, ◌<◌}
use native.Mathlib.Omega.{arith}
use lib.ListN.{length, get_or}
use Rattle.meaning.specs.Lists.{Every, all, between, listed}
use Rattle.meaning.specs.Model.{Item, stack_number}
use Rattle.meaning.specs.Files.{Range, ◌to◌, all_within, item_ranges, item_line, truck_ranges, truck_line, stack_ranges, stack_line}
use Rattle.meaning.specs.Meets.{Meets}
use Rattle.meaning.proofs.Tests.{and_reads, between_reads}
use Rattle.meaning.proofs.Lists.{every_reads, all_reads, every_at, every_place}

-- a number lies in a range
abbrev pub Within : Range → ℕ → Type 0
Within r n = (r.low ≤ n) × (n ≤ r.high)

-- the field at a place lies in the range at that place
pub field_within : (rs : List Range) (ns : List ℕ) (k : ℕ) → all_within rs ns ≡ true → k < length rs → k < length ns → Within (get_or rs k (0 to 0)) (get_or ns k 0)
unfolding all_within
field_within [] ns k e h l = absurd (omega arith)
field_within (r ∷ rs) [] k e h l = absurd (omega arith)
field_within (r ∷ rs) (n ∷ ns) zero e h l = (between_reads r.low r.high n).0 ((and_reads (between r.low r.high n) (all_within rs ns)).0 e).0
field_within (r ∷ rs) (n ∷ ns) (suc k) e h l =
    field_within rs ns k ((and_reads (between r.low r.high n) (all_within rs ns)).0 e).1 (omega arith) (omega arith)

-- so the numbers are below whatever the upper ends are below, where each has a range of its own
pub ranges_below : (end : ℕ) (rs : List Range) (ns : List ℕ) → Every (λ (r : Range). r.high < end) rs → length ns ≤ length rs → all_within rs ns ≡ true
    → Every (λ n. n < end) ns
ranges_below end rs ns h l e =
    every_place (λ n. n < end) 0 ns (λ k m.
    omega (arith, field_within rs ns k e (omega arith) m, every_at (λ (r : Range). r.high < end) rs (0 to 0) k h (omega arith)))

-- and where all have one
pub range_below : (end low high : ℕ) (ns : List ℕ) → high < end → all (between low high) ns ≡ true → Every (λ n. n < end) ns
range_below end low high ns h e =
    (every_reads (λ n. n < end) ns).1 (λ n m. omega (arith, (between_reads low high n).0 ((all_reads (between low high) ns).0 e n m)))

-- each field of an item, of a truck and of a stack is in its range
pub item_within : (a : Item) → Meets item_line a → (k : ℕ) → k < 16 → Within (get_or (item_ranges a) k (0 to 0)) (get_or a k 0)
item_within a h k l = field_within (item_ranges a) a k h.fits l (omega (arith, h.least))

pub truck_within : (ns : List ℕ) → Meets truck_line ns → (k : ℕ) → k < 20 → Within (get_or truck_ranges k (0 to 0)) (get_or ns k 0)
truck_within ns h k l = field_within truck_ranges ns k h.fits l (omega (arith, h.least))

pub stack_within : (trucks : ℕ) (earlier ns : List ℕ) → Meets (stack_line trucks earlier) ns → (k : ℕ) → k < 6
    → Within (get_or (stack_ranges trucks) k (0 to 0)) (get_or ns k 0)
stack_within trucks earlier ns h k l =
    let e = (and_reads (all_within (stack_ranges trucks) ns) (not (listed (stack_number ns) earlier))).0 h.fits in
    field_within (stack_ranges trucks) ns k e.0 l (omega (arith, h.least))
