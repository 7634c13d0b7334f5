-- Rule 22 says of a stack that it ends on the floor and that its height, worked out in signed numbers, is at most the limit.
use mathlib.Core.Path.{◌≡◌, ap₂, ◌∙◌}
use mathlib.Core.Logic.{◌↔◌}
use mathlib.Core.Bool.{true, ◌&&◌}
use mathlib.Core.List.{List, []}
use Prim.Native.Nat.{ℕ, ◌-◌, ◌≤◌}
use native.Mathlib.Omega.{arith}
use borrow.Author.Tests.{leb-true, le-leb}
use lib.IntN.{pos, ◌-ℤ◌}
use lib.Signed.{◌≤ℤ◌}
use Rattle.meaning.specs.Lists.{In, sum}
use Rattle.meaning.specs.Model.{Instance, Stack, item, truck_of, IH, nesting, TL, TW, TH}
use Rattle.meaning.specs.Measures.{above, xe, ye, height}
use Rattle.meaning.specs.Rules.{stack_places, within_length, within_width, within_height, inside, exceeded_side}
use Rattle.meaning.specs.Feasible.{height_of}
use Rattle.meaning.proofs.Tests.{and_reads}
use Rattle.meaning.proofs.Sums.{sum_below, sum_drop}
use Rattle.meaning.proofs.RuleKinds.{stacks_kept}
use Rattle.meaning.proofs.Ring.{same_less, ring}
use Rattle.meaning.proofs.SignedSums.{sum_signed, le_signed}
use Rattle.meaning.proofs.WellFormed.{WellFormedStack, WellFormed}

-- a difference that is not negative
minus_signed : (a b : ℕ) → b ≤ a → pos a -ℤ pos b ≡ pos (a - b)
minus_signed a b h = simp ring (same_less _ _ _ _ (omega arith))

-- an item nests no deeper than it is high, so nothing is cut off in the rule's difference
height_signed : (i : Instance) (s : Stack) → WellFormedStack i s → height_of i s ≡ pos (height i s)
unfolding height
height_signed i s h =
    let high : ℕ → ℕ = λ n. IH (item i n) in
    let deep : ℕ → ℕ = λ n. nesting (item i n) in
    ap₂ ◌-ℤ◌ (sum_signed high s.load) (sum_signed deep (above s))
    ∙ minus_signed (sum high s.load) (sum deep (above s)) (omega (arith, sum_drop deep 1 s.load, sum_below deep high s.load h.nested))

module _ (i : Instance) (p : List Stack) (formed : WellFormed i p) where
  -- 22 outside, by its three dimensions
  abbrev pub Inside : Stack → Type 0
  Inside s = (xe i s ≤ TL (truck_of i s)) × (ye i s ≤ TW (truck_of i s)) × (height_of i s ≤ℤ pos (TH (truck_of i s)))

  inside_reads : (s : Stack) → In s p → (inside i p s ≡ true) ↔ Inside s
  inside_reads s m =
      let signed = height_signed i s (formed.stacks s m) in (
        (λ e.
            let h = (and_reads (within_length i s && within_width i s) (within_height i s)).0 e in
            let k = (and_reads (within_length i s) (within_width i s)).0 h.0 in
            (leb-true _ _ k.0, leb-true _ _ k.1, rw signed ((le_signed (height i s) (TH (truck_of i s))).1 (leb-true _ _ h.1)))),
        (λ h.
            (and_reads (within_length i s && within_width i s) (within_height i s)).1 (
              (and_reads (within_length i s) (within_width i s)).1 (le-leb _ _ h.0, le-leb _ _ h.1),
              le-leb _ _ ((le_signed (height i s) (TH (truck_of i s))).0 (rw signed at h.2)),
            )),
      )

  pub inside_exactly : (stack_places inside exceeded_side i p ≡ []) ↔ ((s : Stack) → In s p → Inside s)
  inside_exactly = (
    (λ e s m. (inside_reads s m).0 ((stacks_kept i p inside exceeded_side).0 e s m)),
    (λ f. (stacks_kept i p inside exceeded_side).1 (λ s m. (inside_reads s m).1 (f s m))),
  )
