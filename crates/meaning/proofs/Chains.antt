-- Rule 24 says that every stack begins a chain of contacts to the front wall.
use mathlib.Core.Path.{◌≡◌, ap}
use mathlib.Core.Logic.{◌⊎◌, inl, inr, ⊎_elim, ◌↔◌}
use mathlib.Core.Bool.{Bool, true}
use mathlib.Core.List.{List, [], ◌∷◌}
use Prim.Native.Nat.{ℕ, zero, suc, ◌+◌, ◌≤◌, min, max}
use native.Mathlib.Nat.{le_refl}
use native.Mathlib.Decide.{dec_le}
use native.Mathlib.Omega.{arith}
use borrow.Author.Tests.{leb-true, le-leb, eqb-true, eq-eqb}
use lib.Dec.{leb, eqb}
use Rattle.meaning.specs.Lists.{any, In}
use Rattle.meaning.specs.Model.{Instance, Stack, number, x, y}
use Rattle.meaning.specs.Measures.{another, across, xe, ye}
use Rattle.meaning.specs.Rules.{stack_places, least_edge, in_contact, braced_by, braced, no_amount}
use Rattle.meaning.specs.Feasible.{SameTruck, LongEnough, hundred, whole_first, whole_next, Contact, Chain}
use Rattle.meaning.proofs.Tests.{and_reads, or_reads}
use Rattle.meaning.proofs.Lists.{any_reads}
use Rattle.meaning.proofs.RuleKinds.{another_reads, stacks_kept}
use Rattle.meaning.proofs.WellFormed.{WellFormed}
use Rattle.meaning.proofs.Extents.{Ends, formed_ends}

-- ---- the rule's test and the contact
module _ (i : Instance) (s r : Stack) (a : Ends i s) (b : Ends i r) where
  -- an edge is long enough exactly when it is as long as the rule asks
  long_reads : (from until : ℕ) → (from + least_edge i s r ≤ until) ↔ LongEnough i s r from until
  long_reads from until = ((λ h. go h (dec_le 100 (min (across i s) (across i r))) (dec_le (across i s) (across i r))), back)
    where
      go : from + least_edge i s r ≤ until → Dec (100 ≤ min (across i s) (across i r)) → Dec (across i s ≤ across i r) → LongEnough i s r from until
      go h (yes q) d = hundred (omega (arith, h, q))
      go h (no q) (yes d) = whole_first (omega (arith, h, q, d, a.at_y))
      go h (no q) (no d) = whole_next (omega (arith, h, q, d, b.at_y))

      back : LongEnough i s r from until → from + least_edge i s r ≤ until
      back (hundred h) = omega (arith, h)
      back (whole_first h) = omega (arith, h, a.at_y)
      back (whole_next h) = omega (arith, h, b.at_y)

  -- the edge is the common part of both y ranges, or a part of it
  contact_reads : (in_contact i s r ≡ true) ↔ Contact i s r
  contact_reads = (
    (λ e.
        let h = (and_reads ends long).0 e in
        let e₁ : xe i r ≡ x s = eqb-true _ _ h.0 in
        record {
          meets = omega (arith, b.at_x, e₁);
          from = max (y s) (y r);
          until = min (ye i s) (ye i r);
          on_first = (omega arith, omega (arith, a.at_y));
          on_next = (omega arith, omega (arith, b.at_y));
          long = (long_reads (max (y s) (y r)) (min (ye i s) (ye i r))).0 (leb-true _ _ h.1);
        }),
    (λ c.
        let h = (long_reads c.from c.until).1 c.long in
        (and_reads ends long).1 (
          eq-eqb (xe i r) (x s) (omega (arith, b.at_x, c.meets)),
          le-leb (max (y s) (y r) + least_edge i s r) (min (ye i s) (ye i r))
              (omega (arith, h, a.at_y, b.at_y, c.on_first.0, c.on_first.1, c.on_next.0, c.on_next.1)),
        )),
  )
    where
      ends : Bool
      ends = eqb (xe i r) (x s)

      long : Bool
      long = leb (max (y s) (y r) + least_edge i s r) (min (ye i s) (ye i r))

chain_in : (i : Instance) (p : List Stack) (s : Stack) (rest : List Stack) → Chain i p (s ∷ rest) → In s p
chain_in i p s [] h = h.0
chain_in i p s (r ∷ rest) h = h.0

module _ (i : Instance) (p : List Stack) (formed : WellFormed i p) where
  -- another stack of its used truck that holds a stack
  record HeldBy (s : Stack) : Type 0 where
    by : Stack
    there : In by p
    together : SameTruck s by
    other : number s ≡ number by → ⊥
    contact : Contact i s by

  ends : (s : Stack) → In s p → Ends i s
  ends s m = formed_ends i s (formed.stacks s m)

  abbrev some_braces : Stack → Bool
  some_braces s = any (braced_by i s) p

  braced_reads : (s : Stack) → In s p → (braced i p s ≡ true) ↔ ((x s ≡ 0) ⊎ HeldBy s)
  braced_reads s m = (
    (λ e.
        ⊎_elim (λ k. inl (eqb-true (x s) 0 k))
        (λ k.
        let w = (any_reads (braced_by i s) p).0 k in
        let h = (and_reads (another s w.0) (in_contact i s w.0)).0 w.2 in
        let o = (another_reads s w.0).0 h.0 in
        inr (record { by = w.0; there = w.1; together = o.0; other = o.1; contact = (contact_reads i s w.0 (ends s m) (ends w.0 w.1)).0 h.1 }))
        ((or_reads (eqb (x s) 0) (some_braces s)).0 e)),
    (λ h.
        (or_reads (eqb (x s) 0) (some_braces s)).1
        (⊎_elim (λ k. inl (eq-eqb (x s) 0 k))
        (λ b.
        inr ((any_reads (braced_by i s) p).1 (
          b.by,
          b.there,
          (and_reads (another s b.by) (in_contact i s b.by)).1
              ((another_reads s b.by).1 (b.together, b.other), (contact_reads i s b.by (ends s m) (ends b.by b.there)).1 b.contact),
        ))) h)),
  )

  -- the next stack of a chain begins at a smaller x, so the chain comes to the wall
  chain_from : ((s : Stack) → In s p → (x s ≡ 0) ⊎ HeldBy s) → (n : ℕ) (s : Stack) → In s p → x s ≤ n → (rest : List Stack) × Chain i p (s ∷ rest)
  chain_from f zero s m h = ([], (m, omega arith))
  chain_from f (suc n) s m h =
      ⊎_elim (λ e. ([], (m, e)))
      (λ b.
      let k = ends b.by b.there in
      let w = chain_from f n b.by b.there (omega (arith, b.contact.meets, k.at_x, k.long)) in
      (b.by ∷ w.0, (m, b.together, b.contact, w.1)))
      (f s m)

  -- a stack does not end where it begins, so the next stack of a chain is another one
  chain_holds : (s : Stack) → In s p → (rest : List Stack) → Chain i p (s ∷ rest) → (x s ≡ 0) ⊎ HeldBy s
  chain_holds s m [] h = inl h.1
  chain_holds s m (r ∷ rest) h =
      let n = chain_in i p r rest h.3 in
      let k = ends r n in
      let other : number s ≡ number r → ⊥ = λ q. let z : x s ≡ x r = ap x (formed.known s r m n q) in omega (arith, z, h.2.meets, k.at_x, k.long) in
      inr (record { by = r; there = n; together = h.1; other = other; contact = h.2 })

  -- 24 unbraced
  pub chains_exactly : (stack_places braced no_amount i p ≡ []) ↔ ((s : Stack) → In s p → (rest : List Stack) × Chain i p (s ∷ rest))
  chains_exactly = (
    (λ e s m. chain_from (λ r n. (braced_reads r n).0 ((stacks_kept i p braced no_amount).0 e r n)) (x s) s m (le_refl (x s))),
    (λ g. (stacks_kept i p braced no_amount).1 (λ s m. let w = g s m in (braced_reads s m).1 (chain_holds s m w.0 w.1))),
  )
