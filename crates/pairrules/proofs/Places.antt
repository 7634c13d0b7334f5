-- Places from a start up to an end: what holds of those that a loop has passed, and of each two of them. The stacks of a used truck by place.
use mathlib.Core.Path.{◌≡◌, refl, sym, ap, ap₂, subst, ◌∙◌}
use mathlib.Core.Logic.{⊎_elim, ◌↔◌}
use mathlib.Core.Bool.{Bool, true, false}
use mathlib.Core.List.{List, []}
use Prim.Native.Nat.{ℕ, ◌+◌, ◌-◌, ◌≤◌, ◌<◌}
use native.Mathlib.Nat.{eq-or-lt_of_le}
use native.Mathlib.Decide.{dec_le}
use native.Mathlib.Omega.{arith}
use lib.ListN.{length}
use Rattle.meaning.specs.Lists.{In}
use Rattle.meaning.specs.Model.{Instance, Stack, number}
use Rattle.meaning.specs.Measures.{UsedTruck, used_by}
use Rattle.meaning.specs.Rules.{pair_places}
use Rattle.meaning.proofs.Tests.{true≢false}
use Rattle.meaning.proofs.Lists.{at_in}
use Rattle.meaning.proofs.RuleKinds.{pairs_kept}
use Rattle.table.specs.Filled.{no_stack}
use Rattle.manifest.specs.Manifest.{manifest_at, block, OneTruck}
use Rattle.manifest.proofs.UsedTrucks.{block_length, block_at, block_place}
use Rattle.pairrules.specs.PairRules.{Inside, Each, EachTwo}

-- equal tests are passed together
pub same_told : {a b : Bool} → a ≡ b → (a ≡ true) ↔ (b ≡ true)
same_told e = ((λ q. sym e ∙ q), (λ q. e ∙ q))

-- ---- a loop over places
-- P holds of each place from `start` up to k
pub record Upto (P : ℕ → Type 0) (start end k : ℕ) : Type 0 where
  pub from : start ≤ k
  pub upto : k ≤ end
  pub each : Each P start k

module _ {P : ℕ → Type 0} {start end : ℕ} where
  pub upto_start : start ≤ end → Upto P start end start
  upto_start h = record { from = omega arith; upto = h; each = λ j from less. absurd (omega arith) }

  module _ {k : ℕ} (h : Upto P start end k) where
    pub upto_more : k < end → P k → Upto P start end (k + 1)
    upto_more up here =
        record {
          from = omega (arith, h.from);
          upto = omega arith;
          each = λ j from less. ⊎_elim (λ q. subst P (sym q) here) (λ q. h.each j from q) (eq-or-lt_of_le (omega arith));
        }

    -- the answer of a loop that is left at the first place where a test fails
    pub upto_all : end ≤ k → (true ≡ true) ↔ Each P start end
    upto_all last = ((λ e j from less. h.each j from (omega arith)), (λ each. refl))

    module _ (up : k < end) {kept : Bool} (told : (kept ≡ true) ↔ P k) where
      pub upto_kept : kept ≡ true → Upto P start end (k + 1)
      upto_kept e = upto_more up (told.0 e)

      pub upto_broken : kept ≡ false → (false ≡ true) ↔ Each P start end
      upto_broken e = (
        (λ f. absurd (true≢false (sym f))),
        (λ each. absurd (true≢false (sym (told.1 (each k h.from up)) ∙ e))),
      )

-- ---- each two places
-- where order does not matter, each place with those behind it is enough
pub behind_enough : {P : ℕ → ℕ → Type 0} {start end : ℕ} → ((j k : ℕ) → P j k → P k j)
    → Each (λ j. Each (P j) (j + 1) end) start end ↔ EachTwo P start end
behind_enough {P} {start} {end} turned = (
  (λ behind j k a b differ. go behind j k a b differ (dec_le j k)),
  (λ two j from up k after less. two j k (from, up) (omega arith, less) (λ e. omega arith)),
)
  where
    go : Each (λ j. Each (P j) (j + 1) end) start end → (j k : ℕ) → Inside start end j → Inside start end k → (j ≡ k → ⊥) → Dec (j ≤ k) → P j k
    go behind j k a b differ (yes l) = ⊎_elim (λ e. absurd (differ e)) (λ less. behind j a.0 a.1 k (omega arith) b.1) (eq-or-lt_of_le l)
    go behind j k a b differ (no l) = turned k j (behind k b.0 b.1 j (omega arith) a.1)

-- ---- the stacks of one used truck
module _ {p : List Stack} {start end : ℕ} (one : OneTruck p start end) where
  pub block_has : (k : ℕ) → Inside start end k → In (manifest_at p k) (block p start end)
  block_has k h =
      let inside : k - start < length (block p start end) = rw (block_length one) (omega arith) in
      let e : start + (k - start) ≡ k = omega arith in
      subst (λ (s : Stack). In s (block p start end)) (block_at one (k - start) (omega arith) ∙ ap (manifest_at p) e)
      (at_in (block p start end) no_stack (k - start) inside)

  -- a number stands at one place only
  place_once : (j k : ℕ) → Inside start end j → Inside start end k → number (manifest_at p j) ≡ number (manifest_at p k) → j ≡ k
  place_once j k a b e = ⊎_elim (λ q. q) (λ less. absurd (omega (arith, one.rising j k a.0 less b.1))) (eq-or-lt_of_le (first (dec_le j k)))
    where
      first : Dec (j ≤ k) → j ≤ k
      first (yes l) = l
      first (no l) = absurd (omega (arith, one.rising k j b.0 (omega arith) a.1))

  -- a rule lists no pair exactly where the stacks at each two places keep it
  pub block_pairs : (kept : Instance → Stack → Stack → Bool) (i : Instance)
      → EachTwo (λ j k. kept i (manifest_at p j) (manifest_at p k) ≡ true) start end ↔ (pair_places kept i (block p start end) ≡ [])
  block_pairs kept i = (
    (λ two. (pairs_kept i (block p start end) kept).1 (λ s r m n same differ.
        let a = block_place one s m in
        let b = block_place one r n in
        ap₂ (kept i) a.3 b.3 ∙ two a.0 b.0 (a.1, a.2) (b.1, b.2) (λ e. differ (ap number (a.3 ∙ ap (manifest_at p) e ∙ sym b.3))))),
    (λ none j k a b differ.
        let used : used_by (manifest_at p j) ≡ used_by (manifest_at p k) = one.same j a.0 a.1 ∙ sym (one.same k b.0 b.1) in
        (pairs_kept i (block p start end) kept).0 none (manifest_at p j) (manifest_at p k) (block_has j a) (block_has k b)
        (record { truck = ap (λ (u : UsedTruck). u.truck) used; copy = ap (λ (u : UsedTruck). u.copy) used }) (λ e. differ (place_once j k a b e))),
  )
