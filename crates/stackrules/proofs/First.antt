-- The first rule on stacks that is broken: the rules one after another, and the items of a stack or the stacks of a plan one after another.
use mathlib.Core.Path.{◌≡◌, refl, sym, ap, ap₂, ◌∙◌}
use mathlib.Core.Bool.{Bool, true, false, cond}
use mathlib.Core.List.{List, [], ◌∷◌, ◌++◌, append-nil, flat_map}
use Prim.Native.Nat.{ℕ, suc, ◌+◌, ◌-◌, ◌≤◌, ◌<◌}
use native.Mathlib.Decide.{dec_le}
use native.Mathlib.Omega.{arith}
use lib.ListN.{length, get_or, drop}
use lib.Seq.{drop-length}
use Rattle.std.specs.Prelude.{Option, Some, None}
use Rattle.std.specs.declared.cmp.Ordering.{Ordering}
use Rattle.std.specs.declared.cmp.Ordering.TheVariants.{Less, Equal, Greater}
use Rattle.std.specs.Ordering.{MatchOrdering, is_lt, nat_cmp, ordering_then}
use Rattle.std.proofs.lemmas.Cmp.{ranked}
use Rattle.meaning.specs.declared.Place.{Place}
use Rattle.meaning.specs.Places.{lower}
use Rattle.meaning.specs.Model.{Instance, Stack}
use Rattle.meaning.specs.Rules.{item_places, stack_places}
use Rattle.meaning.proofs.Tests.{true≢false}
use Rattle.meaning.proofs.Lists.{drop_back}
use Rattle.meaning.proofs.Permute.{perm_same, flat_map_equal}
use Rattle.search.specs.Lowest.{lowest_in, lower_found, place_cmp, lower_by}
use Rattle.search.proofs.Lowest.{place_lower, lowest_append, lowest_members, empty_found, none_listed}
use Rattle.rules.specs.declared.Rule.{Rule}
use Rattle.rules.specs.declared.Rule.TheVariants.{OfStacks, OfPairs, OfTrucks}
use Rattle.rules.specs.declared.StackRule.{StackRule}
use Rattle.rules.specs.declared.StackRule.TheVariants.{EachItem, Own}
use Rattle.rules.specs.LoadingRules.{stack_rule_places, rule_places, on_stack, rule_count, rule_at}
use Rattle.manifest.specs.Manifest.{in_manifest}
use Rattle.manifest.proofs.Order.{manifest_length, manifest_perm}
use Rattle.stackrules.specs.declared.Breach.{Breach}
use Rattle.stackrules.specs.StackRules.{breach_cmp, rank_of, FirstOf}

-- ---- a plan has the places of each stack alone
each_alone : {A B : Type 0} (g : A → List B) (l : List A) → flat_map g l ≡ flat_map (λ (a : A). flat_map g (a ∷ [])) l
unfolding flat_map
each_alone g [] = refl
each_alone g (a ∷ l) = rw (append-nil (g a), ← each_alone g l) refl

places_alone : (rule : StackRule) (i : Instance) (p : List Stack) → stack_rule_places rule i p ≡ flat_map (λ (s : Stack). stack_rule_places rule i (s ∷ [])) p
unfolding item_places stack_places
places_alone (EachItem rule) i p = each_alone _ p
places_alone (Own rule) i p = each_alone _ p

module _ (i : Instance) (rule : Rule) (on : on_stack rule ≡ true) where
  alone : (p : List Stack) → rule_places rule i p ≡ flat_map (λ (s : Stack). rule_places rule i (s ∷ [])) p
  alone p = go rule on
    where
      go : (rule : Rule) → on_stack rule ≡ true → rule_places rule i p ≡ flat_map (λ (s : Stack). rule_places rule i (s ∷ [])) p
      go (OfStacks rule) on = places_alone rule i p
      go (OfPairs rule) on = absurd (true≢false (sym on))
      go (OfTrucks rule) on = absurd (true≢false (sym on))

  -- the stacks in the manifest's order
  pub lowest_listed : (p : List Stack) → lowest_in (flat_map (λ (s : Stack). rule_places rule i (s ∷ [])) (in_manifest p)) ≡ lowest_in (rule_places rule i p)
  lowest_listed p =
      let g : Stack → List Place = λ (s : Stack). rule_places rule i (s ∷ []) in
      let same = perm_same (manifest_perm p) in
      lowest_members _ _ (flat_map_equal g g (in_manifest p) p (same.1, same.0) (λ s. refl)) ∙ ap lowest_in (sym (alone p))

-- ---- a breach, and none
some_same : {A : Type 0} {a b : A} → Some a ≡ Some b → a ≡ b
some_same e = cc

none_some : {A : Type 0} {a : A} → ◌≡◌ {A = Option A} None (Some a) → ⊥
none_some e = let z : ◌≡◌ {A = ℕ} 0 1 = cc in omega arith

-- ---- the rules one after another
-- the rules of the ranks below this one have no place
pub record KeptTo (places : Rule → List Place) (rank : ℕ) : Type 0 where
  pub upto : rank ≤ rule_count
  pub each : (k : ℕ) → k < rank → places (rule_at k) ≡ []

module _ {places : Rule → List Place} where
  pub kept_none : KeptTo places 0
  kept_none = record { upto = omega arith; each = λ k below. absurd (omega arith) }

  module _ {rank : ℕ} (h : KeptTo places rank) (more : rank < rule_count) {found : Option Place} (e : found ≡ lowest_in (places (rule_at rank))) where
    pub kept_more : found ≡ None → KeptTo places (rank + 1)
    kept_more f = record { upto = omega arith; each = λ k below. go k below (dec_le (suc k) rank) }
      where
        go : (k : ℕ) → k < rank + 1 → Dec (k < rank) → places (rule_at k) ≡ []
        go k below (yes less) = h.each k less
        go k below (no not-less) = let same : k ≡ rank = omega arith in rw same (none_listed _ (sym f ∙ e))

    pub kept_broken : {q : Place} → on_stack (rule_at rank) ≡ true → found ≡ Some q → FirstOf places (Some (record { rank = rank; place = q }))
    kept_broken {q} on f = record {
      kept = λ k below on. h.each k below;
      broken = λ b same. rw (← some_same same) (more, on, sym f ∙ e);
    }

  -- the end
  pub kept_all : {rank : ℕ} → KeptTo places rank → rule_count ≤ rank → FirstOf places None
  kept_all h past = record {
    kept = λ k below on. h.each k (omega arith);
    broken = λ b none. absurd (none_some none);
  }

-- ---- other places with the same lowest ones
pub first_same : {P Q : Rule → List Place} {r : Option Breach} → FirstOf P r → ((rule : Rule) → on_stack rule ≡ true → lowest_in (P rule) ≡ lowest_in (Q rule)) → FirstOf Q r
first_same h same = record {
  kept = λ k below on. none_listed _ (empty_found _ (h.kept k below on) ∙ same _ on);
  broken = λ b is. let own = h.broken b is in (own.0, own.1, own.2 ∙ same _ own.1);
}

-- ---- the places of two breaches, joined
abbrev Joined : (P Q : Rule → List Place) → Option Breach → Type 0
Joined P Q r = FirstOf (λ rule. P rule ++ Q rule) r

module _ {P Q : Rule → List Place} where
  module _ {a b : Option Breach} (x : FirstOf P a) (y : FirstOf Q b) where
    none_joined : (k : ℕ) → k < rank_of a → k < rank_of b → on_stack (rule_at k) ≡ true → P (rule_at k) ++ Q (rule_at k) ≡ []
    none_joined k la lb on = ap₂ ◌++◌ (x.kept k la on) (y.kept k lb on)

    -- the first is of a rule that comes before the other's
    first_sooner : rank_of a < rank_of b → Joined P Q a
    first_sooner less = record {
      kept = λ k below on. none_joined k below (omega arith) on;
      broken = λ r is.
          let own = x.broken r is in
          let before : r.rank < rank_of b = rw is at less in
          (own.0, own.1, own.2 ∙ ap lowest_in (rw (y.kept r.rank before own.1) (sym (append-nil (P (rule_at r.rank))))));
    }

    -- so is the second
    second_sooner : rank_of b < rank_of a → Joined P Q b
    second_sooner less = record {
      kept = λ k below on. none_joined k (omega arith) below on;
      broken = λ r is.
          let own = y.broken r is in
          let before : r.rank < rank_of a = rw is at less in
          (own.0, own.1, rw (x.kept r.rank before own.1) own.2);
    }

  -- both are of one rule
  same_rank : (a b : Breach) → FirstOf P (Some a) → FirstOf Q (Some b) → a.rank ≡ b.rank → Joined P Q (Some (cond (lower b.place a.place) b a))
  same_rank a b x y e =
      let own = x.broken a refl in
      let other : Some b.place ≡ lowest_in (Q (rule_at a.rank)) = rw e (y.broken b refl).2 in
      go (lower b.place a.place) refl (ap₂ lower_found own.2 other ∙ sym (lowest_append _ _))
    where
      go : (t : Bool) → lower b.place a.place ≡ t → Some (cond t b.place a.place) ≡ lowest_in (P (rule_at a.rank) ++ Q (rule_at a.rank)) → Joined P Q (Some (cond t b a))
      go true t low = record {
        kept = λ k below on. none_joined x y k (omega arith) below on;
        broken = λ r is. rw (← some_same is) ((y.broken b refl).0, (y.broken b refl).1, rw (← e) low);
      }
      go false t low = record {
        kept = λ k below on. none_joined x y k below (omega arith) on;
        broken = λ r is. rw (← some_same is) ((x.broken a refl).0, (x.broken a refl).1, low);
      }

  pub joined : (a b : Option Breach) → FirstOf P a → FirstOf Q b → Joined P Q (lower_by breach_cmp a b)
  joined None None x y = record { kept = λ k below on. none_joined x y k below below on; broken = λ r is. absurd (none_some is) }
  joined None (Some b) x y = second_sooner x y (y.broken b refl).0
  joined (Some a) None x y = first_sooner x y (x.broken a refl).0
  joined (Some a) (Some b) x y = go (nat_cmp b.rank a.rank) (ranked b.rank a.rank _ refl)
    where
      go : (o : Ordering) → MatchOrdering o (b.rank < a.rank) (b.rank ≡ a.rank) (a.rank < b.rank)
          → Joined P Q (Some (cond (is_lt (ordering_then o (place_cmp b.place a.place))) b a))
      go Less less = second_sooner x y less
      go Equal same = rw (place_lower b.place a.place) (same_rank a b x y (sym same))
      go Greater less = first_sooner x y less

-- ---- a loop down a list, of items or of stacks
-- the breach is that of the elements from j on
pub record FirstFrom {A : Type 0} (g : A → Rule → List Place) (l : List A) (j : ℕ) (r : Option Breach) : Type 0 where
  pub upto : j ≤ length l
  pub is : FirstOf (λ rule. flat_map (λ (a : A). g a rule) (drop j l)) r

module _ {A : Type 0} {g : A → Rule → List Place} {l : List A} {j : ℕ} where
  pub from_none : j ≡ length l → FirstFrom g l j None
  unfolding flat_map
  from_none e =
      let end : drop j l ≡ [] = rw e (drop-length l) in
      record { upto = omega arith; is = rw end (kept_all {rank = rule_count} (record { upto = omega arith; each = λ k below. refl }) (omega arith)) }

  module _ (d : A) {b : Option Breach} (h : FirstFrom g l j b) (some : 0 < j) where
    -- one element more, that breaks a rule or may
    pub from_more : {a r : Option Breach} → FirstOf (g (get_or l (j - 1) d)) a → r ≡ lower_by breach_cmp a b → FirstFrom g l (j - 1) r
    unfolding flat_map
    from_more {a} x e = record { upto = omega (arith, h.upto); is = rw (drop_back l j d some h.upto, e) (joined a b x h.is) }

    -- or keeps them all
    pub from_kept : ((rule : Rule) → g (get_or l (j - 1) d) rule ≡ []) → FirstFrom g l (j - 1) b
    unfolding flat_map
    from_kept none = record { upto = omega (arith, h.upto); is = rw (drop_back l j d some h.upto) (first_same h.is (λ rule on. rw (none rule) refl)) }

  pub from_end : {r : Option Breach} → FirstFrom g l j r → j ≤ 0 → FirstOf (λ rule. flat_map (λ (a : A). g a rule) l) r
  from_end {r} h end = let all : j ≡ 0 = omega arith in rw all at h.is

-- the next element is a stack
pub manifest_known : {j : ℕ} {r : Option Breach} (p : List Stack) {g : Stack → Rule → List Place} → FirstFrom g (in_manifest p) j r → 0 < j → j - 1 < length p
manifest_known p h some = omega (arith, h.upto, manifest_length p)
