-- The ends of ranges: of the head's numbers by their place, and of the lines that end at the last day.
use mathlib.Core.Path.{◌≡◌, refl}
use Prim.Native.Nat.{ℕ, ◌<◌}
use native.Mathlib.Omega.{arith}
use Rattle.meaning.specs.declared.Limits.{Limits}
use Rattle.meaning.specs.Model.{Item}
use Rattle.meaning.specs.Files.{Range, ◌to◌, item_ranges, truck_ranges}
use Rattle.meaning.specs.Table.{largest_word}
use Rattle.meaning.proofs.Lists.{every_at}
use Rattle.table.specs.Filled.{Bounded}
use Rattle.ranges.specs.Ranges.{head_ranges, head_range, item_ranges_up_to, truck_ranges_up_to}

-- a number of the head is below the largest word
pub head_below : (m : Limits) → Bounded m → (place : ℕ) → place < 6 → (head_range m place).high < largest_word
head_below m b place h = every_at (λ (r : Range). r.high < largest_word) (head_ranges m) (0 to 0) place (omega (arith, b.words)) h

-- ---- up to the last day of document 01 the ranges are those of the meaning
pub item_days : (a : Item) → item_ranges_up_to 399 a ≡ item_ranges a
item_days a = refl

pub truck_days : truck_ranges_up_to 399 ≡ truck_ranges
truck_days = refl
