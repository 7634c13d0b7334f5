-- All rules on an item, and all rules on the stack itself, told by tests that are joined.
use mathlib.Core.Path.{◌≡◌, refl, sym, ap, ◌∙◌}
use mathlib.Core.Logic.{◌↔◌}
use mathlib.Core.Bool.{Bool, true, false, not, ◌&&◌}
use mathlib.Core.List.{List, []}
use Prim.Native.Nat.{ℕ}
use Rattle.meaning.specs.declared.Place.{Place}
use Rattle.meaning.specs.Model.{Instance, Stack, Item, item}
use Rattle.meaning.proofs.Tests.{true≢false, and_reads, iff_both, iff_trans}
use Rattle.meaning.proofs.Lists.{unless_none}
use Rattle.std.specs.Prelude.{Option, Some, None}
use Rattle.std.specs.Option.{is_some}
use Rattle.search.specs.Lowest.{lowest_in}
use Rattle.search.proofs.Lowest.{empty_found, none_listed}
use Rattle.rules.specs.declared.Rule.{Rule}
use Rattle.rules.specs.declared.Rule.TheVariants.{OfStacks, OfPairs, OfTrucks}
use Rattle.rules.specs.declared.ItemRule.{ItemRule}
use Rattle.rules.specs.declared.ItemRule.TheVariants.{Plant, Product, Supplier, Day, Dock, Mixed, Turned}
use Rattle.rules.specs.declared.OwnRule.{OwnRule}
use Rattle.rules.specs.declared.OwnRule.TheVariants.{Docks, TopHeavy, TooMany, Dense, Outside}
use Rattle.rules.specs.declared.StackRule.TheVariants.{EachItem, Own}
use Rattle.rules.specs.LoadingRules.{item_test}
use Rattle.stackrules.specs.StackRules.{every_item_test, own_places, OwnRulesKept, with_item}

-- ---- joined tests
both : {a b : Bool} {P Q : Type 0} → (a ≡ true) ↔ P → (b ≡ true) ↔ Q → ((a && b) ≡ true) ↔ (P × Q)
both {a} {b} p q = iff_trans (and_reads a b) (iff_both p q)

-- a search that finds nothing
pub nothing_told : {found : Option Place} {nothing : Bool} (places : List Place) → found ≡ lowest_in places → is_some found ≡ not nothing
    → (nothing ≡ true) ↔ (places ≡ [])
nothing_told {found} {nothing} places is told = (
  (λ e. none_listed places (sym (none found (told ∙ ap not e)) ∙ is)),
  (λ e. go nothing (sym told ∙ ap is_some (is ∙ sym (empty_found places e)))),
)
  where
    none : (o : Option Place) → is_some o ≡ false → o ≡ None
    none None e = refl
    none (Some p) e = absurd (true≢false e)

    go : (b : Bool) → not b ≡ false → b ≡ true
    go true e = refl
    go false e = absurd (true≢false e)

-- ---- an item
module _ (i : Instance) (s : Stack) (a : Item) where
  abbrev T : ItemRule → Type 0
  T rule = item_test rule i s a ≡ true

  -- each test of those that are joined
  every_item : every_item_test i s a ≡ true → (rule : ItemRule) → T rule
  every_item e =
      let six = (and_reads _ _).0 e in
      let five = (and_reads _ _).0 six.0 in
      let four = (and_reads _ _).0 five.0 in
      let three = (and_reads _ _).0 four.0 in
      let two = (and_reads _ _).0 three.0 in
      let one = (and_reads _ _).0 two.0 in
      go one.0 one.1 two.1 three.1 four.1 five.1 six.1
    where
      go : T Plant → T Product → T Supplier → T Day → T Dock → T Mixed → T Turned → (rule : ItemRule) → T rule
      go p r u d k m t Plant = p
      go p r u d k m t Product = r
      go p r u d k m t Supplier = u
      go p r u d k m t Day = d
      go p r u d k m t Dock = k
      go p r u d k m t Mixed = m
      go p r u d k m t Turned = t

-- ---- a stack by itself, and with an item
module _ (i : Instance) (s : Stack) where
  -- a search finds nothing exactly where a rule on the stack itself is kept
  abbrev Tells : OwnRule → Bool → Type 0
  Tells rule nothing = (nothing ≡ true) ↔ (own_places rule i s ≡ [])

  pub own_told : {d t m h o : Bool} → Tells Docks d → Tells TopHeavy t → Tells TooMany m → Tells Dense h → Tells Outside o
      → (((((d && t) && m) && h) && o) ≡ true) ↔ OwnRulesKept i s
  own_told d t m h o =
      iff_trans (both (both (both (both d t) m) h) o) (
        (λ ((((d, t), m), h), o). go d t m h o),
        (λ each. ((((each Docks, each TopHeavy), each TooMany), each Dense), each Outside)),
      )
    where
      Kept : OwnRule → Type 0
      Kept rule = own_places rule i s ≡ []

      go : Kept Docks → Kept TopHeavy → Kept TooMany → Kept Dense → Kept Outside → OwnRulesKept i s
      go d t m h o Docks = d
      go d t m h o TopHeavy = t
      go d t m h o TooMany = m
      go d t m h o Dense = h
      go d t m h o Outside = o

  none_broken : (n : ℕ) → OwnRulesKept i s → every_item_test i s (item i n) ≡ true → (rule : Rule) → with_item i s n rule ≡ []
  unfolding with_item
  none_broken n own each (OfStacks (EachItem rule)) = (unless_none _ _).1 (every_item i s (item i n) each rule)
  none_broken n own each (OfStacks (Own rule)) = own rule
  none_broken n own each (OfPairs rule) = refl
  none_broken n own each (OfTrucks rule) = refl

  -- as the code tells it
  pub all_kept_lem : (n : ℕ) {own each : Bool} {s' : Stack} → s' ≡ s → (own ≡ true) ↔ OwnRulesKept i s → each ≡ every_item_test i s' (item i n)
      → (own && each) ≡ true → (rule : Rule) → with_item i s n rule ≡ []
  all_kept_lem n {own} {each} same told e kept =
      let k = (and_reads own each).0 kept in
      none_broken n (told.0 k.0) (rw (← same) (sym e ∙ k.1))
