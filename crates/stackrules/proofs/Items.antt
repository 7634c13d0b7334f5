-- The rules on an item of a stack: what is listed has a loading order, and the places of a stack by those with each of its items.
use mathlib.Core.Path.{◌≡◌, refl, sym, ap, ◌∙◌}
use mathlib.Core.Logic.{inl}
use mathlib.Core.Bool.{true, ◌&&◌}
use mathlib.Core.List.{List, [], ◌∷◌, flat_map, append-nil}
use Prim.Native.Nat.{ℕ, ◌<◌}
use native.Mathlib.Omega.{arith}
use lib.Dec.{leb}
use lib.ListN.{length}
use Rattle.std.specs.Prelude.{Option, Some}
use Rattle.meaning.specs.declared.Place.{Place}
use Rattle.meaning.specs.Lists.{listed, order_in}
use Rattle.meaning.specs.Model.{Instance, Stack, item, truck_numbered, truck, IG, IU, IK}
use Rattle.meaning.specs.Measures.{docks_of}
use Rattle.meaning.specs.Rules.{item_places, docks_served}
use Rattle.meaning.proofs.Tests.{true≢false, same_test, le_reads, iff_trans, iff_sym}
use Rattle.meaning.proofs.Lists.{in_flat_map, listed_reads}
use Rattle.meaning.proofs.Permute.{Same}
use Rattle.meaning.proofs.Orders.{order-in}
use Rattle.search.specs.Lowest.{lowest_in}
use Rattle.search.proofs.Lowest.{lowest_none, lowest_members}
use Rattle.rules.specs.declared.Rule.{Rule}
use Rattle.rules.specs.declared.Rule.TheVariants.{OfStacks, OfPairs, OfTrucks}
use Rattle.rules.specs.declared.StackRule.TheVariants.{EachItem, Own}
use Rattle.rules.specs.LoadingRules.{rule_places, on_stack}
use Rattle.stackrules.specs.StackRules.{with_item}

-- an identifier has a loading order exactly when it is listed
pub order_listed : (l : List ℕ) (n : ℕ) {l' : List ℕ} {n' k : ℕ} → l' ≡ l → n' ≡ n → k ≡ order_in l' n' → leb 1 k ≡ listed n l
order_listed l n el en e =
    rw (e, el, en) (same_test (leb 1 (order_in l n)) (listed n l) (iff_trans (le_reads 1 (order_in l n)) (iff_trans (order-in l n) (iff_sym (listed_reads n l)))))

-- both docks of an item are listed, by their loading orders on the stack's truck
pub docks_listed : (i : Instance) (s : Stack) (n : ℕ) {carrier dock plant_dock : ℕ} → carrier ≡ truck s
    → dock ≡ order_in (docks_of (truck_numbered i carrier) (IU (item i n))) (IK (item i n))
    → plant_dock ≡ order_in (truck_numbered i carrier).plant_docks (IG (item i n)) → (leb 1 dock && leb 1 plant_dock) ≡ docks_served i s (item i n)
docks_listed i s n et ed ep = rw (ed, ep, et) refl

-- ---- the places of a stack's items, one after another
-- places that are listed again for each element of some list
repeated : {A B : Type 0} (l : List A) (places : List B) → 0 < length l → Same (flat_map (λ (a : A). places) l) places
repeated [] places some = absurd (omega arith)
repeated (a ∷ l) places some =
    ((λ b m. ((in_flat_map (λ a. places) (a ∷ l) b).0 m).2), (λ b m. (in_flat_map (λ a. places) (a ∷ l) b).1 (a, inl refl, m)))

-- the items of a stack have its places
module _ (i : Instance) (s : Stack) {load : List ℕ} (e : load ≡ s.load) (some : 0 < length load) where
  pub load_places : (rule : Rule) → on_stack rule ≡ true → lowest_in (flat_map (λ n. with_item i s n rule) load) ≡ lowest_in (rule_places rule i (s ∷ []))
  unfolding with_item item_places flat_map
  load_places (OfStacks (EachItem rule)) on = rw e (ap lowest_in (sym (append-nil _)))
  load_places (OfStacks (Own rule)) on = lowest_members _ _ (repeated load _ some)
  load_places (OfPairs rule) on = absurd (true≢false (sym on))
  load_places (OfTrucks rule) on = absurd (true≢false (sym on))

-- a place found is that of a rule on stacks
pub found_on_stack : (i : Instance) (s : Stack) (n : ℕ) (rule : Rule) {found : Option Place} {q : Place} → found ≡ lowest_in (with_item i s n rule) → found ≡ Some q
    → on_stack rule ≡ true
unfolding with_item
found_on_stack i s n (OfStacks rule) e f = refl
found_on_stack i s n (OfPairs rule) e f = let none = e ∙ lowest_none in let z : ◌≡◌ {A = ℕ} 0 1 = cc in absurd (omega arith)
found_on_stack i s n (OfTrucks rule) e f = let none = e ∙ lowest_none in let z : ◌≡◌ {A = ℕ} 0 1 = cc in absurd (omega arith)
