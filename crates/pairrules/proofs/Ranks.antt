-- P4 on ranks: comparing the highest of some loading orders with the lowest of others compares each with each.
use mathlib.Core.Path.{◌≡◌, refl, sym}
use mathlib.Core.Logic.{◌↔◌}
use mathlib.Core.Bool.{Bool, true, ◌||◌, or-true}
use mathlib.Core.List.{List, map}
use Prim.Native.Nat.{ℕ, ◌≤◌}
use borrow.Author.Tests.{le-leb}
use lib.Dec.{leb}
use Rattle.meaning.specs.Lists.{all}
use Rattle.meaning.specs.Model.{Instance, Stack, item, truck}
use Rattle.meaning.specs.Measures.{plant_dock_order}
use Rattle.meaning.specs.Rules.{docks_not_after, loads_before}
use Rattle.meaning.proofs.Tests.{le_reads, same_test, iff_trans, iff_sym}
use Rattle.meaning.proofs.Lists.{all_every}
use Rattle.views.specs.Views.{plant_dock_orders, range_of, rank_of}
use Rattle.views.proofs.OrderRanges.{range_low, range_high}
use Rattle.pairrules.specs.PairRules.{ranks_before}

-- ---- the test on ranks, as the code makes it
-- ---- ranges of loading orders
module _ {A : Type 0} where
  -- numbers that are at most 8 are each at most each of others where the highest is at most the lowest of those
  all_ranges : (f g : A → ℕ) → ((a : A) → f a ≤ 8) → (l l' : List A)
      → all (λ a. all (λ b. leb (f a) (g b)) l') l ≡ leb (range_of (map f l)).highest (range_of (map g l')).lowest
  all_ranges f g few l l' =
      let high = (range_of (map f l)).highest in
      let low = (range_of (map g l')).lowest in
      same_test _ (leb high low) (iff_trans (all_every _ (λ (a : A). f a ≤ low) each l) (iff_trans (iff_sym (range_high f l low)) (iff_sym (le_reads high low))))
    where
      each : (a : A) → (all (λ b. leb (f a) (g b)) l' ≡ true) ↔ (f a ≤ (range_of (map g l')).lowest)
      each a =
          iff_trans (all_every _ (λ (b : A). f a ≤ g b) (λ b. le_reads (f a) (g b)) l')
          ((λ h. (range_low g l' (f a)).1 (few a, h)), (λ h. ((range_low g l' (f a)).0 h).1))

-- ---- P4 (3), on stacks whose plant dock orders are at most 8
abbrev pub FewOrders : Instance → Stack → Type 0
FewOrders i s = (n : ℕ) → plant_dock_order i s (item i n) ≤ 8

docks_range : (i : Instance) (s r : Stack) → FewOrders i s
    → docks_not_after i s r ≡ leb (range_of (plant_dock_orders i (truck s) s.load)).highest (range_of (plant_dock_orders i (truck r) r.load)).lowest
unfolding docks_not_after plant_dock_orders
docks_range i s r few = all_ranges (λ n. plant_dock_order i s (item i n)) (λ m. plant_dock_order i r (item i m)) few s.load r.load

pub ranks_before_lem : (i : Instance) (s r : Stack) → FewOrders i s → FewOrders i r → ranks_before (rank_of i (truck s) s.load) (rank_of i (truck r) r.load) ≡ loads_before i s r
unfolding rank_of loads_before
ranks_before_lem i s r few few' = rw (docks_range i s r few, docks_range i r s few') refl

-- ---- 25 order, as the code asks it: x first
pub in_front : (order : Bool) (u v : ℕ) → u ≤ v → true ≡ (order || leb u v)
in_front order u v h = rw (le-leb u v h) (sym (or-true order))
