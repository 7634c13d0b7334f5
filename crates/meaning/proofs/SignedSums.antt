-- Signed sums and comparisons of numbers that are not negative: they are the sums and comparisons of the numbers themselves.
use mathlib.Core.Path.{◌≡◌, refl, ap}
use mathlib.Core.Logic.{◌↔◌}
use mathlib.Core.List.{List, [], ◌∷◌}
use Prim.Native.Nat.{ℕ, ◌≤◌}
use lib.IntN.{ℤ, pos, ◌+ℤ◌}
use lib.Signed.{◌≤ℤ◌}
use Rattle.meaning.specs.Lists.{sum, sumℤ}
use Rattle.meaning.specs.Model.{Instance, item, IM}
use Rattle.meaning.specs.Measures.{weight}
use Rattle.meaning.specs.Feasible.{weight_of}
use Rattle.meaning.proofs.Tests.{le_reads, le_z_reads, iff_trans, iff_sym}

-- a signed sum of such numbers
pub sum_signed : {A : Type 0} (f : A → ℕ) (l : List A) → sumℤ (λ (a : A). pos (f a)) l ≡ pos (sum f l)
unfolding sum sumℤ
sum_signed f [] = refl
sum_signed f (a ∷ l) = ap (λ (z : ℤ). pos (f a) +ℤ z) (sum_signed f l)

-- the order of two such numbers: both orders are the same test
pub le_signed : (a b : ℕ) → (pos a ≤ℤ pos b) ↔ (a ≤ b)
le_signed a b = iff_trans (iff_sym (le_z_reads (pos a) (pos b))) (le_reads a b)

-- the weight of items
pub weight_signed : (i : Instance) (ns : List ℕ) → weight_of i ns ≡ pos (weight i ns)
unfolding weight
weight_signed i ns = sum_signed (λ n. IM (item i n)) ns
