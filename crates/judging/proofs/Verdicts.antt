-- The verdict by the loading rules: from what the stacks and the used trucks tell to the first broken rule.
use mathlib.Core.Path.{◌≡◌, refl, sym, ap, ◌∙◌}
use mathlib.Core.Logic.{◌↔◌, ◌⊎◌, inl, inr, ⊎_elim}
use mathlib.Core.Bool.{Bool, true, false, not, ◌||◌}
use mathlib.Core.List.{List, []}
use Prim.Native.Nat.{ℕ, suc, ◌+◌, ◌≤◌, ◌<◌}
use native.Mathlib.Decide.{dec_le}
use native.Mathlib.Nat.{eq-or-lt_of_le}
use native.Mathlib.Omega.{arith}
use Rattle.std.specs.Prelude.{Option, Some, None, is_none, unwrap_or}
use Rattle.meaning.specs.declared.Place.{Place}
use Rattle.meaning.specs.declared.Answer.{Answer}
use Rattle.meaning.specs.Rules.{loading_rules}
use Rattle.meaning.specs.Verdict.{refusal, first_broken}
use Rattle.meaning.specs.Model.{Instance, Stack}
use Rattle.meaning.specs.Lists.{all, any, up_from}
use Rattle.meaning.proofs.Tests.{true≢false, and_reads}
use Rattle.meaning.proofs.Lists.{all_reads, any_reads, in_up_from}
use Rattle.search.specs.Lowest.{lowest_in}
use Rattle.search.proofs.Lowest.{none_listed}
use Rattle.rules.specs.declared.Rule.{Rule}
use Rattle.rules.specs.declared.Rule.TheVariants.{OfStacks, OfPairs, OfTrucks}
use Rattle.rules.specs.declared.PairRule.{PairRule}
use Rattle.rules.specs.declared.PairRule.TheVariants.{SecondPair, Overlap, Order}
use Rattle.rules.specs.declared.StackRule.{StackRule}
use Rattle.rules.specs.declared.TruckRule.{TruckRule}
use Rattle.rules.specs.declared.TruckRule.TheVariants.{Unbraced, Overload, Middle, Rear}
use Rattle.rules.specs.LoadingRules.{rule_places, on_stack, rule_count, rule_at, verdict_of, KeptBelow}
use Rattle.rules.proofs.Ranks.{verdict_named, broken_at_rank}
use Rattle.stackrules.specs.declared.Breach.{Breach}
use Rattle.stackrules.specs.StackRules.{rank_of, FirstOf, FirstOnStacks}
use Rattle.judging.specs.declared.Asked.{Asked}
use Rattle.judging.specs.declared.Findings.{Findings}
use Rattle.judging.specs.declared.UsedTrucks.{UsedTrucks}
use Rattle.judging.specs.declared.Survey.{Survey}
use Rattle.judging.specs.Judging.{is_asked, AskedBelow, pair_kept, truck_found, all_kept, Beforehand, nothing, kept_by, Tells, TellsAsked, FirstRank, CountsTrucks, told_rank, stack_found, BrokenAt, SurveyOf, place_in}

-- ---- what a search found
found_none : (f : Option Place) → nothing f ≡ true → None ≡ f
found_none (Some p) e = absurd (true≢false (sym e))
found_none None e = refl

found_some : (f : Option Place) → nothing f ≡ false → Some (place_in f) ≡ f
found_some (Some p) e = refl
found_some None e = absurd (true≢false e)

-- a rule by another name
pub told_of : (f : Findings) {rule same : Rule} {kept : Bool} → kept ≡ kept_by rule f → rule ≡ same → kept ≡ kept_by same f
told_of f e r = e ∙ ap (λ r. kept_by r f) r

-- a search that is made where a rule is not kept finds a place
pub lowest_broken : {f : Option Place} {places : List Place} {kept : Bool} → f ≡ lowest_in places → (kept ≡ true) ↔ (places ≡ []) → kept ≡ false
    → Some (place_in f) ≡ lowest_in places
lowest_broken {f} {places} e tells broken = by_kind (nothing f) refl
  where
    by_kind : (n : Bool) → nothing f ≡ n → Some (place_in f) ≡ lowest_in places
    by_kind true z = absurd (true≢false (sym (tells.1 (none_listed places (found_none f z ∙ e))) ∙ broken))
    by_kind false z = found_some f z ∙ e

-- ---- a rule that the used trucks tell to be kept
told_kept : (asked : Asked) (i : Instance) (p : List Stack) (f : Findings) (rule : Rule) → is_asked asked rule ≡ true → Tells rule i p f → kept_by rule f ≡ true
    → rule_places rule i p ≡ []
told_kept asked i p f (OfStacks rule) a h e = absurd (true≢false (sym a))
told_kept asked i p f (OfPairs rule) a h e = h.0 e
told_kept asked i p f (OfTrucks rule) a h e = none_listed _ (found_none (truck_found rule f) e ∙ h)

-- ---- 23 comes before 25, so the loading order is told where it is asked for
abbrev is_overlap : Rule → Bool
is_overlap (OfStacks rule) = false
is_overlap (OfPairs SecondPair) = false
is_overlap (OfPairs Overlap) = true
is_overlap (OfPairs Order) = false
is_overlap (OfTrucks rule) = false

abbrev is_order : Rule → Bool
is_order (OfStacks rule) = false
is_order (OfPairs SecondPair) = false
is_order (OfPairs Overlap) = false
is_order (OfPairs Order) = true
is_order (OfTrucks rule) = false

overlap_first : all (λ k. not (is_order (rule_at k)) || any (λ j. is_overlap (rule_at j)) (up_from 0 k)) (up_from 0 rule_count) ≡ true
unfolding rule_at all any up_from
overlap_first = refl

module _ (f : Findings) where
  overlap_kept : (rule : Rule) → is_overlap rule ≡ true → kept_by rule f ≡ true → pair_kept Overlap f ≡ true
  overlap_kept (OfStacks rule) o e = absurd (true≢false (sym o))
  overlap_kept (OfPairs SecondPair) o e = absurd (true≢false (sym o))
  overlap_kept (OfPairs Overlap) o e = e
  overlap_kept (OfPairs Order) o e = absurd (true≢false (sym o))
  overlap_kept (OfTrucks rule) o e = absurd (true≢false (sym o))

  beforehand : (k : ℕ) → k < rule_count → ((j : ℕ) → j < k → kept_by (rule_at j) f ≡ true) → Beforehand (rule_at k) f
  beforehand k inside kept = by_kind (rule_at k) test
    where
      test : (not (is_order (rule_at k)) || any (λ j. is_overlap (rule_at j)) (up_from 0 k)) ≡ true
      test = (all_reads _ (up_from 0 rule_count)).0 overlap_first k ((in_up_from 0 rule_count k).1 (omega arith))

      earlier : any (λ j. is_overlap (rule_at j)) (up_from 0 k) ≡ true → pair_kept Overlap f ≡ true
      earlier e =
          let w = (any_reads (λ j. is_overlap (rule_at j)) (up_from 0 k)).0 e in
          overlap_kept (rule_at w.0) w.2 (kept w.0 (omega (arith, (in_up_from 0 k w.0).0 w.1)))

      by_kind : (rule : Rule) → (not (is_order rule) || any (λ j. is_overlap (rule_at j)) (up_from 0 k)) ≡ true → Beforehand rule f
      by_kind (OfStacks rule) e = tt
      by_kind (OfPairs SecondPair) e = tt
      by_kind (OfPairs Overlap) e = tt
      by_kind (OfPairs Order) e = earlier e
      by_kind (OfTrucks rule) e = tt

-- ---- the used trucks keep all
pub all_told : (f : Findings) → all_kept f ≡ true → (rule : Rule) → kept_by rule f ≡ true
all_told f e =
    let rear = (and_reads _ (nothing (truck_found Rear f))).0 e in
    let middle = (and_reads _ (nothing (truck_found Middle f))).0 rear.0 in
    let overload = (and_reads _ (nothing (truck_found Overload f))).0 middle.0 in
    let unbraced = (and_reads _ (nothing (truck_found Unbraced f))).0 overload.0 in
    let order = (and_reads _ (pair_kept Order f)).0 unbraced.0 in
    let pairs = (and_reads (pair_kept SecondPair f) (pair_kept Overlap f)).0 order.0 in
    each pairs.0 pairs.1 order.1 unbraced.1 overload.1 middle.1 rear.1
  where
    K : Rule → Type 0
    K rule = kept_by rule f ≡ true

    each : K (OfPairs SecondPair) → K (OfPairs Overlap) → K (OfPairs Order) → K (OfTrucks Unbraced) → K (OfTrucks Overload) → K (OfTrucks Middle)
        → K (OfTrucks Rear) → (rule : Rule) → K rule
    each s v o u w m r (OfStacks rule) = refl
    each s v o u w m r (OfPairs SecondPair) = s
    each s v o u w m r (OfPairs Overlap) = v
    each s v o u w m r (OfPairs Order) = o
    each s v o u w m r (OfTrucks Unbraced) = u
    each s v o u w m r (OfTrucks Overload) = w
    each s v o u w m r (OfTrucks Middle) = m
    each s v o u w m r (OfTrucks Rear) = r

-- ---- the loop over the ranks
none_some : {rank : ℕ} → None ≡ Some rank → ⊥
none_some e = true≢false (ap is_none e)

-- the rules below `rank` are told to be kept
pub record KeptTo (f : Findings) (upto rank : ℕ) : Type 0 where
  pub within : rank ≤ upto
  pub kept : (k : ℕ) → k < rank → kept_by (rule_at k) f ≡ true

module _ {f : Findings} {upto : ℕ} where
  module _ {rank : ℕ} (h : KeptTo f upto rank) where
    pub kept_on : {kept : Bool} → rank < upto → kept ≡ kept_by (rule_at rank) f → kept ≡ true → KeptTo f upto (rank + 1)
    kept_on {kept} more e q = record { within = omega arith; kept = λ k below. go k below (dec_le (suc k) rank) }
      where
        go : (k : ℕ) → k < rank + 1 → Dec (k < rank) → kept_by (rule_at k) f ≡ true
        go k below (yes less) = h.kept k less
        go k below (no past) = let same : k ≡ rank = omega arith in rw same (sym e ∙ q)

    pub kept_whole : upto ≤ rank → FirstRank f upto None
    kept_whole past = record { kept = λ k below. h.kept k (omega arith); broken = λ r e. absurd (none_some e) }

    pub broken_here : {kept : Bool} → rank < upto → kept ≡ kept_by (rule_at rank) f → kept ≡ false → FirstRank f upto (Some rank)
    broken_here {kept} more e q =
        record { kept = h.kept; broken = λ r same. let s : rank ≡ r = ap (λ o. unwrap_or o 0) same in rw (← s) (more, sym e ∙ q) }

-- ---- the first broken rule on single stacks
pub upto_rules : {places : Rule → List Place} (b : Option Breach) → FirstOf places b → rank_of b ≤ rule_count
upto_rules None h = omega arith
upto_rules (Some b) h = omega (arith, (h.broken b refl).0)

broken_first : {places : Rule → List Place} (b : Option Breach) → FirstOf places b → rank_of b < rule_count
    → (on_stack (rule_at (rank_of b)) ≡ true) × (Some (place_in (stack_found b)) ≡ lowest_in (places (rule_at (rank_of b))))
broken_first None h inside = absurd (omega (arith, inside))
broken_first (Some b) h inside = let own = h.broken b refl in (own.1, own.2)

-- ---- the rank that is told
-- as a number: `upto` where there is none
record RankTold (f : Findings) (upto rank : ℕ) : Type 0 where
  within : rank ≤ upto
  kept : (k : ℕ) → k < rank → kept_by (rule_at k) f ≡ true
  broken : rank < upto → kept_by (rule_at rank) f ≡ false

told_by : {f : Findings} {upto : ℕ} (o : Option ℕ) → FirstRank f upto o → RankTold f upto (unwrap_or o upto)
told_by None h = record { within = omega arith; kept = h.kept; broken = λ more. absurd (omega arith) }
told_by (Some rank) h = let own = h.broken rank refl in record { within = omega (arith, own.0); kept = h.kept; broken = λ more. own.1 }

same_rank : (o : Option ℕ) (b : Option Breach) → unwrap_or (told_rank o b) rule_count ≡ unwrap_or o (rank_of b)
same_rank (Some rank) b = refl
same_rank None None = refl
same_rank None (Some b) = refl

told_inside : {places : Rule → List Place} {f : Findings} (o : Option ℕ) (b : Option Breach) → FirstOf places b → FirstRank f (rank_of b) o → {rank : ℕ}
    → told_rank o b ≡ Some rank → unwrap_or o (rank_of b) < rule_count
told_inside (Some rank) b first r e = omega (arith, (r.broken rank refl).0, upto_rules b first)
told_inside None None first r e = absurd (none_some e)
told_inside None (Some b) first r e = (first.broken b refl).0

-- ---- the first broken rule
module _ {i : Instance} {p : List Stack} {b : Option Breach} {asked : Asked} {f : Findings} {rank : ℕ} (first : FirstOnStacks i p b)
    (covers : AskedBelow (rank_of b) asked) (tells : TellsAsked asked i p f) (r : RankTold f (rank_of b) rank) where
  -- no rule below it lists a place
  kept_below : KeptBelow i p rank
  kept_below = record { each = λ k below. go k below (covers.each k (omega (arith, r.within))) }
    where
      go : (k : ℕ) → k < rank → (on_stack (rule_at k) ≡ true) ⊎ (is_asked asked (rule_at k) ≡ true) → rule_places (rule_at k) i p ≡ []
      go k below (inl s) = first.kept k (omega (arith, r.within)) s
      go k below (inr a) =
          let early = beforehand f k (omega (arith, r.within, upto_rules b first)) (λ j less. r.kept j (omega arith)) in
          told_kept asked i p f (rule_at k) a (tells.each (rule_at k) a early) (r.kept k below)

  -- where a rule on single stacks is broken at that rank, it is the first of them
  on_stacks_lem : rank < rule_count → on_stack (rule_at rank) ≡ true → Some (place_in (stack_found b)) ≡ lowest_in (rule_places (rule_at rank) i p)
  on_stacks_lem inside s = ⊎_elim here (λ less. absurd (before (rule_at rank) s (r.broken less))) (eq-or-lt_of_le r.within)
    where
      here : rank ≡ rank_of b → Some (place_in (stack_found b)) ≡ lowest_in (rule_places (rule_at rank) i p)
      here e = rw e (broken_first b first (rw (← e) inside)).1

      before : (rule : Rule) → on_stack rule ≡ true → kept_by rule f ≡ false → ⊥
      before (OfStacks rule) s e = true≢false e
      before (OfPairs rule) s e = true≢false (sym s)
      before (OfTrucks rule) s e = true≢false (sym s)

  -- any other comes before it, and the used trucks tell of it
  told : rank < rule_count → on_stack (rule_at rank) ≡ false → Tells (rule_at rank) i p f × (kept_by (rule_at rank) f ≡ false)
  told inside other =
      let below : rank < rank_of b =
      ⊎_elim (λ e. absurd (true≢false (sym (broken_first b first (rw (← e) inside)).0 ∙ rw (← e) other))) (λ less. less) (eq-or-lt_of_le r.within)
      in
      (⊎_elim (λ s. absurd (true≢false (sym s ∙ other))) (λ a. tells.each (rule_at rank) a (beforehand f rank inside (λ j less. r.kept j less))) (covers.each rank below), r.broken below)

-- what the survey says, from what the stacks and the used trucks tell
pub surveyed : {i : Instance} {p : List Stack} {b : Option Breach} {asked : Asked} {f : Findings} {o : Option ℕ} {used : UsedTrucks} → FirstOnStacks i p b
    → AskedBelow (rank_of b) asked → TellsAsked asked i p f → FirstRank f (rank_of b) o → CountsTrucks i p used.count used.cost
    → SurveyOf i p (record { rank = told_rank o b; first = b; found = f; used = used })
surveyed {i} {p} {b} {asked} {f} {o} {used} first covers tells r counts =
    record { kept = rw (same_rank o b) (kept_below first covers tells t); broken = broken; used = counts }
  where
    t : RankTold f (rank_of b) (unwrap_or o (rank_of b))
    t = told_by o r

    broken : (rank : ℕ) → told_rank o b ≡ Some rank → BrokenAt i p (record { rank = told_rank o b; first = b; found = f; used = used }) rank
    broken rank e =
        let inside = told_inside o b first r e in
        let same : unwrap_or o (rank_of b) ≡ rank = sym (same_rank o b) ∙ ap (λ o. unwrap_or o rule_count) e in
        rw (← same) (record { inside = inside; on_stacks = on_stacks_lem first covers tells t inside; tells = told first covers tells t inside })

-- the first broken rule, by its kind: the answer is its number with the place that was found
module _ {i : Instance} {p : List Stack} {s : Survey} {rank : ℕ} {rule : Rule} (h : SurveyOf i p s) (some : s.rank ≡ Some rank) (e : rule ≡ rule_at rank) where
  broken : BrokenAt i p s rank
  broken = h.broken rank some

  below : KeptBelow i p rank
  below = rw some at h.kept

  refused : (f : Option Place) (kept a : Answer) → a ≡ refusal (verdict_of rule) (place_in f)
      → Some (place_in f) ≡ lowest_in (rule_places (rule_at rank) i p) → a ≡ first_broken loading_rules i p kept
  refused f kept a ea low =
      ea ∙ ap (λ r. refusal (verdict_of r) (place_in f)) e ∙ ap (λ v. refusal v (place_in f)) (verdict_named rank broken.inside)
      ∙ broken_at_rank kept rank (place_in f) broken.inside below low

  pub stack_refused : {each : StackRule} {f : Option Place} {a : Answer} → rule ≡ OfStacks each → f ≡ stack_found s.first
      → a ≡ refusal (verdict_of rule) (place_in f) → (kept : Answer) → a ≡ first_broken loading_rules i p kept
  stack_refused {f = f} k is ea kept = refused f kept _ ea (rw is (broken.on_stacks (rw (← e, k) refl)))

  pub pair_refused : {pair : PairRule} {f : Option Place} {a : Answer} → rule ≡ OfPairs pair → f ≡ lowest_in (rule_places (OfPairs pair) i p)
      → a ≡ refusal (verdict_of rule) (place_in f) → (kept : Answer) → a ≡ first_broken loading_rules i p kept
  pair_refused {pair} {f} k is ea kept =
      let kind : rule_at rank ≡ OfPairs pair = sym e ∙ k in
      let t = broken.tells (rw kind refl) in
      refused f kept _ ea (rw kind (lowest_broken is (rw kind at t.0) (rw kind at t.1)))

  pub truck_refused : {each : TruckRule} {f : Option Place} {a : Answer} → rule ≡ OfTrucks each → f ≡ truck_found each s.found
      → a ≡ refusal (verdict_of rule) (place_in f) → (kept : Answer) → a ≡ first_broken loading_rules i p kept
  truck_refused {each} {f} k is ea kept =
      let kind : rule_at rank ≡ OfTrucks each = sym e ∙ k in
      let t = broken.tells (rw kind refl) in
      refused f kept _ ea (rw (kind, is) (found_some (truck_found each s.found) (rw kind at t.1) ∙ (rw kind at t.0)))
