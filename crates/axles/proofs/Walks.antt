-- The stacks of a used truck, one row more at a time: what is asked and summed of those that are on, and how large the sums are.
use mathlib.Core.Path.{◌≡◌, refl, sym, ap, ◌∙◌}
use mathlib.Core.Bool.{Bool, true, false, cond}
use mathlib.Core.List.{List, ◌∷◌}
use Prim.Native.Nat.{ℕ, ◌+◌, ◌*◌, ◌≤◌, ◌<◌}
use native.Mathlib.Omega.{arith}
use mir.Syntax.{w64}
use mir.Val.{SFits, to_z, of_z}
use mir.Facts.{to_z-of_z}
use lib.IntN.{ℤ, pos, nat_abs, ◌+ℤ◌, ◌-ℤ◌, +ℤ_idl, +ℤ_idr, +ℤ_assoc}
use lib.ListN.{length, drop, drop_of_length-le}
use Rattle.meaning.specs.Lists.{any, filter, sum, sumℤ}
use Rattle.meaning.proofs.Lists.{drop_next}
use Rattle.meaning.proofs.Sums.{sum_filter}
use Rattle.meaning.proofs.Ring.{less, same_less, ring}
use Rattle.manifest.specs.Manifest.{row_at, no_row}
use Rattle.manifest.specs.declared.row.Row.{Row}
use Rattle.axles.specs.Weights.{is_on, on_at, weight_of, lever_by, lever_of, levers_of, BoundedRow, BoundedRows}
use Rattle.axles.proofs.Signed.{stored, in_range_lem, less_size, plus_size, times_size}

-- ---- whether one is on: none of those before k is
pub record NoneBefore (departure : ℕ) (rows : List Row) (k : ℕ) : Type 0 where
  pub rest : any (is_on departure) (drop k rows) ≡ any (is_on departure) rows

module _ {departure k : ℕ} {rows : List Row} (h : NoneBefore departure rows k) where
  pub none_on : length rows ≤ k → false ≡ any (is_on departure) rows
  unfolding any
  none_on l = rw (← h.rest, drop_of_length-le rows l) refl

  module _ {on : Bool} (e : on ≡ is_on departure (row_at rows k)) (some : k < length rows) where
    pub on_here : on ≡ true → true ≡ any (is_on departure) rows
    unfolding any
    on_here y = rw (← h.rest, drop_next rows k no_row some, ← e, y) refl

    pub none_here : on ≡ false → NoneBefore departure rows (k + 1)
    unfolding any
    none_here n = record { rest = rw (drop_next rows k no_row some, ← e, n) at h.rest }

-- ---- the weight of all: what is summed and what is still to come make the whole sum
pub record Weighed (rows : List Row) (k w : ℕ) : Type 0 where
  pub rest : w + weight_of (drop k rows) ≡ weight_of rows

module _ {rows : List Row} {k w : ℕ} (h : Weighed rows k w) where
  -- one row more
  pub weighed_more : k < length rows → Weighed rows (k + 1) (w + (row_at rows k).weight)
  unfolding sum
  weighed_more some = record { rest = omega (arith, ap weight_of (drop_next rows k no_row some), h.rest) }

  pub weighed_end : length rows ≤ k → w ≡ weight_of rows
  unfolding sum
  weighed_end l = let none : weight_of (drop k rows) ≡ 0 = rw (drop_of_length-le rows l) refl in omega (arith, h.rest, none)

-- ---- both sums of those that are on
sum_if : (f : Row → ℕ) (b : Bool) (r : Row) (l : List Row) → cond b (f r) 0 + sum f l ≡ sum f (cond b (r ∷ l) l)
unfolding sum
sum_if f true r l = refl
sum_if f false r l = omega arith

sumℤ_if : (f : Row → ℤ) (b : Bool) (r : Row) (l : List Row) → cond b (f r) (pos 0) +ℤ sumℤ f l ≡ sumℤ f (cond b (r ∷ l) l)
unfolding sumℤ
sumℤ_if f true r l = refl
sumℤ_if f false r l = +ℤ_idl (sumℤ f l)

-- a stack's weight with a distance of at most 80000
distance_size : (a b e most : ℕ) → a ≤ most → b + e ≤ most → nat_abs (pos a -ℤ pos b -ℤ pos e) ≤ most
distance_size a b e most h k =
    let is : pos a -ℤ pos b -ℤ pos e ≡ less a (b + e) = simp ring (same_less _ _ _ _ (omega arith)) in
    rw is (less_size a (b + e) most h k)

lever_size : (twice : ℕ) (r : Row) → twice ≤ 80000 → BoundedRow r → nat_abs (lever_of twice r) ≤ r.weight * 80000
unfolding lever_by
lever_size twice r a h =
    let distance = distance_size twice r.footprint.x r.footprint.xe 80000 a (omega (arith, h.x, h.xe)) in
    times_size (pos r.weight) (pos twice -ℤ pos r.footprint.x -ℤ pos r.footprint.xe) (omega arith) distance

term_size : (twice : ℕ) (r : Row) (b : Bool) → twice ≤ 80000 → BoundedRow r → nat_abs (cond b (lever_of twice r) (pos 0)) ≤ cond b r.weight 0 * 80000
term_size twice r true a h = lever_size twice r a h
term_size twice r false a h = omega arith

-- what is summed and what is still to come make the whole sums
pub record SumsTo (departure twice : ℕ) (rows : List Row) (k w : ℕ) (z : ℤ) : Type 0 where
  pub weight : w + weight_of (on_at departure (drop k rows)) ≡ weight_of (on_at departure rows)
  pub levers : z +ℤ levers_of twice (on_at departure (drop k rows)) ≡ levers_of twice (on_at departure rows)
  pub small : nat_abs z ≤ w * 80000

pub sums_start : {departure twice : ℕ} {rows : List Row} → SumsTo departure twice rows 0 0 (pos 0)
sums_start = record { weight = omega arith; levers = +ℤ_idl _; small = omega arith }

-- one row more: both sums fit
pub record SumsNext (departure twice : ℕ) (rows : List Row) (k w weight : ℕ) (z lever : ℤ) : Type 0 where
  pub light : w + weight ≤ 3276800000
  pub fits : SFits w64 (z +ℤ to_z w64 (of_z w64 lever))
  pub sums : SumsTo departure twice rows (k + 1) (w + weight) (to_z w64 (of_z w64 (z +ℤ to_z w64 (of_z w64 lever))))

light_on : (departure : ℕ) {rows : List Row} → BoundedRows rows → weight_of (on_at departure rows) ≤ 3276800000
light_on departure {rows} bounded = omega (arith, sum_filter (λ (r : Row). r.weight) (is_on departure) rows, bounded.weight)

module _ {departure twice : ℕ} {rows : List Row} (bounded : BoundedRows rows) (a : twice ≤ 80000) where
  module _ {k w : ℕ} {z : ℤ} (h : SumsTo departure twice rows k w z) where
    pub sums_next : {weight : ℕ} {lever : ℤ} → k < length rows → SFits w64 lever
        → (weight ≡ cond (is_on departure (row_at rows k)) (row_at rows k).weight 0)
        × (lever ≡ cond (is_on departure (row_at rows k)) (lever_of twice (row_at rows k)) (pos 0))
        → SumsNext departure twice rows k w weight z lever
    unfolding filter
    sums_next {weight} {lever} some fits term =
        let r = row_at rows k in
        let b = is_on departure r in
        let on = on_at departure (drop (k + 1) rows) in
        let read : to_z w64 (of_z w64 lever) ≡ cond b (lever_of twice r) (pos 0) = stored fits term.1 in
        let next : on_at departure (drop k rows) ≡ cond b (r ∷ on) on = ap (on_at departure) (drop_next rows k no_row some) in
        let weights : weight + weight_of on ≡ weight_of (on_at departure (drop k rows)) = rw (next, term.0) (sum_if (λ (r : Row). r.weight) b r on) in
        let levers : to_z w64 (of_z w64 lever) +ℤ levers_of twice on ≡ levers_of twice (on_at departure (drop k rows)) =
        rw (next, read) (sumℤ_if (lever_of twice) b r on) in
        let size : nat_abs (to_z w64 (of_z w64 lever)) ≤ weight * 80000 = rw (read, term.0) (term_size twice r b a (bounded.each k some)) in
        let small : nat_abs (z +ℤ to_z w64 (of_z w64 lever)) ≤ (w + weight) * 80000 = omega (arith, plus_size z (to_z w64 (of_z w64 lever)) h.small size) in
        let light : w + weight ≤ 3276800000 = omega (arith, weights, h.weight, light_on departure bounded) in
        let whole : SFits w64 (z +ℤ to_z w64 (of_z w64 lever)) = in_range_lem _ {most = 262144000000000} (omega (arith, small, light)) tt in
        let more : SumsTo departure twice rows (k + 1) (w + weight) (z +ℤ to_z w64 (of_z w64 lever)) =
        record {
          weight = omega (arith, weights, h.weight);
          levers = +ℤ_assoc z (to_z w64 (of_z w64 lever)) (levers_of twice on) ∙ ap (λ y. z +ℤ y) levers ∙ h.levers;
          small = small;
        } in
        record { light = light; fits = whole; sums = rw (to_z-of_z {w = w64} {z = z +ℤ to_z w64 (of_z w64 lever)} whole) more }

    pub sums_end : length rows ≤ k → (w ≡ weight_of (on_at departure rows)) × (z ≡ levers_of twice (on_at departure rows))
        × (w ≤ 3276800000) × (nat_abs z ≤ 262144000000000)
    unfolding filter sum sumℤ
    sums_end l =
        let none = drop_of_length-le rows l in
        let weight : w ≡ weight_of (on_at departure rows) = omega (arith, rw none at h.weight) in
        let levers : z ≡ levers_of twice (on_at departure rows) = sym (+ℤ_idr z) ∙ rw none at h.levers in
        (weight, levers, omega (arith, weight, light_on departure bounded), omega (arith, h.small, weight, light_on departure bounded))
