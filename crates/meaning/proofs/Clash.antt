-- No code clash is listed exactly when two items of one code have the same length and width.
use mathlib.Core.Path.{◌≡◌, refl, sym, ap, subst, ◌∙◌}
use mathlib.Core.Logic.{◌↔◌}
use mathlib.Core.Bool.{true}
use mathlib.Core.Option.{none}
use mathlib.Core.List.{List, [], map}
use Prim.Native.Nat.{ℕ, suc, ◌-◌, ◌<◌}
use native.Mathlib.Omega.{arith}
use lib.Dec.{eqb}
use lib.ListN.{length, length-map}
use Rattle.meaning.specs.declared.Place.{Place}
use Rattle.meaning.specs.Lists.{In, up_from, order_in}
use Rattle.meaning.specs.Model.{Instance, Item, item, IL, IW, IS}
use Rattle.meaning.specs.Places.{lowest}
use Rattle.meaning.specs.Check.{first_of_code, same_length_and_width, code_clashes}
use Rattle.meaning.specs.InRange.{NoClash}
use Rattle.meaning.specs.Claims.{IsLowest}
use Rattle.meaning.proofs.Tests.{and_reads, eq_reads, iff_trans, iff_both}
use Rattle.meaning.proofs.Lists.{at_in, in_at, in_map, map_at, in_up_from, flat_map_none, unless_none}
use Rattle.meaning.proofs.Orders.{one_back, order_stands}
use Rattle.meaning.proofs.Lowest.{lowest_is}

-- no place is the lowest exactly when none is listed
none_lowest : (ps : List Place) → (lowest ps ≡ none) ↔ (ps ≡ [])
unfolding lowest
none_lowest ps = ((λ e. subst (IsLowest ps) e (lowest_is ps)), (λ e. ap lowest e))

-- the test of two items, as a statement
same_reads : (a b : Item) → (same_length_and_width a b ≡ true) ↔ ((IL a ≡ IL b) × (IW a ≡ IW b))
same_reads a b = iff_trans (and_reads (eqb (IL a) (IL b)) (eqb (IW a) (IW b))) (iff_both (eq_reads (IL a) (IL b)) (eq_reads (IW a) (IW b)))

module _ (i : Instance) where
  -- the first item of a code
  abbrev first_with : ℕ → Item
  first_with code = item i (order_in (map IS i.items) code)

  -- each item is like the first of its code
  abbrev LikeFirst : Type 0
  LikeFirst = (a : Item) → In a i.items → (IL a ≡ IL (first_with (IS a))) × (IW a ≡ IW (first_with (IS a)))

  -- the items are those with the numbers from 1 on
  numbered : (a : Item) → In a i.items → (n : ℕ) × In n (up_from 1 (length i.items)) × (item i n ≡ a)
  numbered a m =
      let w = in_at [] i.items a m in
      (suc w.0, (in_up_from 1 (length i.items) (suc w.0)).1 (omega (arith, w.1)), rw (one_back w.0) (sym w.2))

  number_item : (n : ℕ) → In n (up_from 1 (length i.items)) → In (item i n) i.items
  number_item n m = at_in i.items [] (n - 1) (omega (arith, (in_up_from 1 (length i.items) n).0 m))

  clashes_none : (code_clashes i ≡ []) ↔ LikeFirst
  unfolding code_clashes
  clashes_none =
      let none = flat_map_none _ (up_from 1 (length i.items)) in (
        (λ e a m.
            let w = numbered a m in
            let same = (unless_none _ _).0 (none.0 e w.0 w.1) in
            (same_reads a (first_with (IS a))).0 (subst (λ (b : Item). same_length_and_width b (first_with (IS b)) ≡ true) w.2 same)),
        (λ h. none.1 (λ n m. (unless_none _ _).1 ((same_reads (item i n) (item i (first_of_code i n))).1 (h (item i n) (number_item n m))))),
      )

  -- the first item of a code that an item has is an item, and has that code
  first_of : (a : Item) → In a i.items → In (first_with (IS a)) i.items × (IS (first_with (IS a)) ≡ IS a)
  first_of a m =
      let s = order_stands (map IS i.items) (IS a) ((in_map IS i.items (IS a)).1 (a, m, refl)) in
      let at = order_in (map IS i.items) (IS a) - 1 in
      let inside : at < length i.items = omega (arith, s.from, s.up_to, length-map i.items IS) in
      (at_in i.items [] at inside, sym (map_at IS i.items at [] 0 inside) ∙ s.there)

  pub no_clash_lem : (lowest (code_clashes i) ≡ none) ↔ NoClash i
  no_clash_lem =
      iff_trans (none_lowest (code_clashes i)) (iff_trans clashes_none (
        (λ h a b m n e.
            let p = h a m in
            let q = h b n in
            let first : first_with (IS a) ≡ first_with (IS b) = ap first_with e in
            (p.0 ∙ ap IL first ∙ sym q.0, p.1 ∙ ap IW first ∙ sym q.1)),
        (λ h a m. let f = first_of a m in h a (first_with (IS a)) m f.0 (sym f.1)),
      ))
