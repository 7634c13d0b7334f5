-- The loading rules by rank are those of the verdict table, and the first broken one is found by asking them one after another.
use mathlib.Core.Path.{◌≡◌, refl, sym, ap, ◌∙◌}
use mathlib.Core.Option as listed
use mathlib.Core.Option.{none, some}
use mathlib.Core.List.{List, [], ◌∷◌, map}
use Prim.Native.Nat.{ℕ, zero, suc, ◌+◌, ◌≤◌, ◌<◌}
use native.Mathlib.Decide.{dec_le}
use native.Mathlib.Omega.{arith}
use lib.ListN.{length, get_or, drop}
use lib.Seq.{drop-cons}
use Rattle.std.specs.Prelude.{Option, Some, None}
use Rattle.meaning.specs.declared.Place.{Place}
use Rattle.meaning.specs.declared.Answer.{Answer}
use Rattle.meaning.specs.Places.{lowest}
use Rattle.meaning.specs.Model.{Instance, Stack}
use Rattle.meaning.specs.Measures.{used_trucks}
use Rattle.meaning.specs.Rules as meant
use Rattle.meaning.specs.Rules.{rules, not_once_rule, loading_rules, item_rules, stack_rules, placement_rules, weight_rules, not_once}
use Rattle.meaning.specs.Verdict.{refusal, acceptance, broken_or, first_broken, verdict_on, cost}
use Rattle.meaning.proofs.Lists.{map_at}
use Rattle.search.specs.Lowest.{found_of, lowest_in}
use Rattle.search.proofs.Lowest.{none_listed}
use Rattle.rules.specs.declared.Rule.TheVariants.{OfTrucks}
use Rattle.rules.specs.declared.TruckRule.TheVariants.{Rear}
use Rattle.rules.specs.LoadingRules.{rule_places, verdicts, rule_count, ordered, rule_at, verdict_of, KeptBelow}

-- ---- one rule of the table
module _ (r : meant.Rule) (rs : List meant.Rule) (i : Instance) (p : List Stack) (kept : Answer) where
  rule_broken : (q : Place) → Some q ≡ lowest_in (r.places i p) → refusal r.verdict q ≡ first_broken (r ∷ rs) i p kept
  unfolding first_broken lowest_in broken_or
  rule_broken q e = rw (back (lowest (r.places i p)) e) refl
    where
      back : (o : listed.Option Place) → Some q ≡ found_of o → o ≡ some q
      back none e = let z : ◌≡◌ {A = ℕ} 0 1 = cc in absurd (omega arith)
      back (some q) e = cc

  rule_kept : r.places i p ≡ [] → first_broken (r ∷ rs) i p kept ≡ first_broken rs i p kept
  unfolding first_broken broken_or lowest
  rule_kept e = rw e refl

-- ---- the code's rules have their verdicts
pub verdict_named : (rank : ℕ) → rank < rule_count → verdict_of (rule_at rank) ≡ get_or verdicts rank 0
unfolding rule_at
verdict_named rank inside = sym (map_at verdict_of ordered rank (OfTrucks Rear) 0 inside)

-- ---- the table's loading rules, and the code's names for them
verdicts_named : map (λ (r : meant.Rule). r.verdict) loading_rules ≡ verdicts
unfolding loading_rules item_rules stack_rules placement_rules weight_rules
verdicts_named = refl

places_named : map (λ (r : meant.Rule). r.places) loading_rules ≡ map rule_places ordered
unfolding loading_rules item_rules stack_rules placement_rules weight_rules
places_named = refl

loading_length : length loading_rules ≡ rule_count
unfolding loading_rules item_rules stack_rules placement_rules weight_rules
loading_length = refl

-- stands in for a row that the table does not have
no_rule : meant.Rule
no_rule = record { verdict = 0; places = λ i p. [] }

module _ (rank : ℕ) (inside : rank < rule_count) where
  abbrev row : meant.Rule
  row = get_or loading_rules rank no_rule

  within : rank < length loading_rules
  within = omega (arith, loading_length)

  row_verdict : row.verdict ≡ get_or verdicts rank 0
  row_verdict = sym (map_at (λ (r : meant.Rule). r.verdict) loading_rules rank no_rule 0 within) ∙ ap (λ (l : List ℕ). get_or l rank 0) verdicts_named

  row_places : row.places ≡ rule_places (rule_at rank)
  unfolding rule_at
  row_places =
      let none : Instance → List Stack → List Place = λ i p. [] in
      sym (map_at (λ (r : meant.Rule). r.places) loading_rules rank no_rule none within)
      ∙ ap (λ (l : List (Instance → List Stack → List Place)). get_or l rank none) places_named
      ∙ map_at rule_places ordered rank (OfTrucks Rear) none inside

-- ---- the rules asked one after another
module _ {i : Instance} {p : List Stack} where
  pub kept_none : KeptBelow i p 0
  kept_none = record { each = λ k below. absurd (omega arith) }

  -- one rule more
  pub kept_more : {rank : ℕ} → KeptBelow i p rank → rule_places (rule_at rank) i p ≡ [] → KeptBelow i p (rank + 1)
  kept_more {rank} h e = record { each = λ k below. go k below (dec_le (suc k) rank) }
    where
      go : (k : ℕ) → k < rank + 1 → Dec (k < rank) → rule_places (rule_at k) i p ≡ []
      go k below (yes less) = h.each k less
      go k below (no more) = let same : k ≡ rank = omega arith in rw same e

  module _ (kept : Answer) where
    -- the rules below the rank are passed over
    from_rank : (rank : ℕ) → rank ≤ rule_count → KeptBelow i p rank → first_broken (drop rank loading_rules) i p kept ≡ first_broken loading_rules i p kept
    from_rank zero upto h = refl
    from_rank (suc rank) upto h =
        let inside : rank < rule_count = omega arith in
        let later = drop (suc rank) loading_rules in
        let split : drop rank loading_rules ≡ row rank inside ∷ later = drop-cons loading_rules rank no_rule (within rank inside) in
        let none : (row rank inside).places i p ≡ [] = rw (row_places rank inside) (h.each rank (omega arith)) in
        sym (rule_kept (row rank inside) later i p kept none) ∙ ap (λ (rs : List meant.Rule). first_broken rs i p kept) (sym split)
        ∙ from_rank rank (omega arith) record { each = λ k below. h.each k (omega arith) }

    -- the first rule that is broken
    pub broken_at_rank : (rank : ℕ) (q : Place) → rank < rule_count → KeptBelow i p rank → Some q ≡ lowest_in (rule_places (rule_at rank) i p)
        → refusal (get_or verdicts rank 0) q ≡ first_broken loading_rules i p kept
    broken_at_rank rank q inside h e =
        let later = drop (suc rank) loading_rules in
        let split : drop rank loading_rules ≡ row rank inside ∷ later = drop-cons loading_rules rank no_rule (within rank inside) in
        let found : Some q ≡ lowest_in ((row rank inside).places i p) = rw (row_places rank inside) e in
        ap (λ verdict. refusal verdict q) (sym (row_verdict rank inside)) ∙ rule_broken (row rank inside) later i p kept q found
        ∙ ap (λ (rs : List meant.Rule). first_broken rs i p kept) (sym split) ∙ from_rank rank (omega arith) h

    -- none is
    pub all_kept_lem : KeptBelow i p rule_count → kept ≡ first_broken loading_rules i p kept
    unfolding first_broken loading_rules item_rules stack_rules placement_rules weight_rules
    all_kept_lem h = from_rank rule_count (omega arith) h

-- ---- 9, and then the loading rules
module _ (i : Instance) (p : List Stack) where
  abbrev accepted : Answer
  accepted = acceptance (cost i p) (length (used_trucks p))

  pub once_broken : {found : Option Place} (q : Place) → found ≡ lowest_in (not_once i p) → found ≡ Some q → refusal 9 q ≡ verdict_on i p
  unfolding verdict_on rules
  once_broken q e f = rule_broken not_once_rule loading_rules i p accepted q (sym f ∙ e)

  pub once_kept : {found : Option Place} → found ≡ lowest_in (not_once i p) → found ≡ None → first_broken loading_rules i p accepted ≡ verdict_on i p
  unfolding verdict_on rules
  once_kept e f = sym (rule_kept not_once_rule loading_rules i p accepted (none_listed (not_once i p) (sym f ∙ e)))
