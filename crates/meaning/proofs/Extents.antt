-- The picture's ends of a stack are those of the rules, and the floor by squares says what rules 22 (length, width) and 23 say.
use mathlib.Core.Path.{◌≡◌, ap}
use mathlib.Core.Logic.{◌⊎◌, inl, inr, ⊎_elim, ◌↔◌}
use mathlib.Core.Bool.{Bool, true, false, cond, ◌||◌}
use mathlib.Core.List.{List, []}
use Prim.Native.Nat.{ℕ, ◌+◌, ◌-◌, ◌≤◌, ◌<◌, max}
use native.Mathlib.Omega.{arith}
use borrow.Author.Tests.{leb-true, leb-false}
use lib.Dec.{leb, eqb}
use Rattle.meaning.specs.Lists.{In}
use Rattle.meaning.specs.Model.{Instance, Stack, truck_of, number, orientation, x, y, IL, IW, TL, TW}
use Rattle.meaning.specs.Measures.{bottom, along, across, xe, ye}
use Rattle.meaning.specs.Rules.{pair_places, disjoint}
use Rattle.meaning.specs.Feasible.{SameTruck, turned_by, end_x, end_y, Under, OnFloor}
use Rattle.meaning.proofs.Tests.{decide, or_reads, or_false}
use Rattle.meaning.proofs.RuleKinds.{pairs_kept}
use Rattle.meaning.proofs.WellFormed.{WellFormedStack, WellFormed}

-- ---- ends
turned_is : (s : Stack) (a b : ℕ) → (orientation s ≡ 1) ⊎ (orientation s ≡ 2) → turned_by s a b ≡ cond (eqb (orientation s) 1) a b
turned_is s a b (inl e) = rw e
turned_is s a b (inr e) = rw e

chosen : (c : Bool) (a b : ℕ) → 1 ≤ a → 1 ≤ b → 1 ≤ cond c a b
chosen true a b h k = h
chosen false a b h k = k

-- where a stack ends, and that it has an extent at all
pub record Ends (i : Instance) (s : Stack) : Type 0 where
  pub at_x : end_x i s ≡ xe i s
  pub at_y : end_y i s ≡ ye i s
  pub long : x s < xe i s
  pub wide : y s < ye i s

pub formed_ends : (i : Instance) (s : Stack) → WellFormedStack i s → Ends i s
formed_ends i s h =
    let lengthwise = eqb (orientation s) 1 in
    let l : 1 ≤ along i s = chosen lengthwise (IL (bottom i s)) (IW (bottom i s)) h.long h.wide in
    let w : 1 ≤ across i s = chosen lengthwise (IW (bottom i s)) (IL (bottom i s)) h.wide h.long in
    record {
      at_x = ap (λ (k : ℕ). x s + k) (turned_is s (IL (bottom i s)) (IW (bottom i s)) h.turned);
      at_y = ap (λ (k : ℕ). y s + k) (turned_is s (IW (bottom i s)) (IL (bottom i s)) h.turned);
      long = omega (arith, l);
      wide = omega (arith, w);
    }

-- ---- 23, for two stacks
module _ (i : Instance) (s r : Stack) (a : Ends i s) (b : Ends i r) where
  -- stacks that lie apart share no square
  apart_none : disjoint i s r ≡ true → (u v : ℕ) → Under i s u v → Under i r u v → ⊥
  apart_none e u v f g =
      ⊎_elim
      (λ h.
      ⊎_elim
      (λ h. ⊎_elim
      (λ h. let k = leb-true (xe i s) (x r) h in omega (arith, k, a.at_x, f.before_xe, g.from_x))
      (λ h. let k = leb-true (xe i r) (x s) h in omega (arith, k, b.at_x, f.from_x, g.before_xe))
      ((or_reads (leb (xe i s) (x r)) (leb (xe i r) (x s))).0 h))
      (λ h. let k = leb-true (ye i s) (y r) h in omega (arith, k, a.at_y, f.before_ye, g.from_y))
      ((or_reads (leb (xe i s) (x r) || leb (xe i r) (x s)) (leb (ye i s) (y r))).0 h))
      (λ h. let k = leb-true (ye i r) (y s) h in omega (arith, k, b.at_y, f.from_y, g.before_ye))
      ((or_reads (leb (xe i s) (x r) || leb (xe i r) (x s) || leb (ye i s) (y r)) (leb (ye i r) (y s))).0 e)

  -- stacks that do not lie apart share the square where the later starts meet
  shared : disjoint i s r ≡ false → (u : ℕ) × (v : ℕ) × Under i s u v × Under i r u v
  shared e =
      let c = (or_false (leb (xe i s) (x r) || leb (xe i r) (x s) || leb (ye i s) (y r)) (leb (ye i r) (y s))).0 e in
      let d = (or_false (leb (xe i s) (x r) || leb (xe i r) (x s)) (leb (ye i s) (y r))).0 c.0 in
      let f = (or_false (leb (xe i s) (x r)) (leb (xe i r) (x s))).0 d.0 in
      let h₁ : x r < xe i s = leb-false _ _ f.0 in
      let h₂ : x s < xe i r = leb-false _ _ f.1 in
      let h₃ : y r < ye i s = leb-false _ _ d.1 in
      let h₄ : y s < ye i r = leb-false _ _ c.1 in (
        max (x s) (x r),
        max (y s) (y r),
        record { from_x = omega arith; before_xe = omega (arith, a.at_x, a.long); from_y = omega arith; before_ye = omega (arith, a.at_y, a.wide) },
        record { from_x = omega arith; before_xe = omega (arith, b.at_x, b.long); from_y = omega arith; before_ye = omega (arith, b.at_y, b.wide) },
      )

  none_apart : ((u v : ℕ) → Under i s u v → Under i r u v → ⊥) → disjoint i s r ≡ true
  none_apart f = ⊎_elim (λ e. e) (λ e. let w = shared e in absurd (f w.0 w.1 w.2 w.3)) (decide (disjoint i s r))

module _ (i : Instance) (p : List Stack) (formed : WellFormed i p) where
  ends : (s : Stack) → In s p → Ends i s
  ends s m = formed_ends i s (formed.stacks s m)

  -- 23 overlap
  pub floor_exactly :
      (pair_places disjoint i p ≡ [])
      ↔ ((s r : Stack) → In s p → In r p → SameTruck s r → (number s ≡ number r → ⊥) → (u v : ℕ) → Under i s u v → Under i r u v → ⊥)
  floor_exactly = (
    (λ e s r m n o d. apart_none i s r (ends s m) (ends r n) ((pairs_kept i p disjoint).0 e s r m n o d)),
    (λ f. (pairs_kept i p disjoint).1 (λ s r m n o d. none_apart i s r (ends s m) (ends r n) (f s r m n o d))),
  )

  -- 22 outside, length and width: the last square of a stack is on the floor
  pub on_floor_exactly : (s : Stack) → In s p
      → ((xe i s ≤ TL (truck_of i s)) × (ye i s ≤ TW (truck_of i s))) ↔ ((u v : ℕ) → Under i s u v → OnFloor (truck_of i s) u v)
  on_floor_exactly s m =
      let k = ends s m in (
        (λ h u v a. record { in_length = omega (arith, k.at_x, a.before_xe, h.0); in_width = omega (arith, k.at_y, a.before_ye, h.1) }),
        (λ f.
            let last : Under i s (xe i s - 1) (ye i s - 1) =
            record { from_x = omega (arith, k.long); before_xe = omega (arith, k.at_x, k.long); from_y = omega (arith, k.wide); before_ye = omega (arith, k.at_y, k.wide) } in
            let c = f (xe i s - 1) (ye i s - 1) last in
            (omega (arith, c.in_length, k.long), omega (arith, c.in_width, k.wide))),
      )
