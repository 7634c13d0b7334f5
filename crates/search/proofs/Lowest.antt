-- The lowest of some places: of two lists, of the same places in another order, and as a loop down a list finds it.
use mathlib.Core.Path.{◌≡◌, refl, sym, ap, ap₂, ◌∙◌}
use mathlib.Core.Logic.{inl, inr, ⊎_elim}
use mathlib.Core.Bool.{Bool, true, false, cond, ◌&&◌, ◌||◌}
use mathlib.Core.Option as listed
use mathlib.Core.Option.{none, some}
use mathlib.Core.List.{List, [], ◌∷◌, ◌++◌, flat_map}
use Prim.Native.Nat.{ℕ, ◌-◌, ◌≤◌, ◌<◌}
use native.Mathlib.Omega.{arith}
use lib.Dec.{ltb, eqb}
use Rattle.std.specs.Bool.{then_some}
use Rattle.std.specs.Prelude.{Option, Some, None}
use Rattle.std.specs.declared.cmp.Ordering.{Ordering}
use Rattle.std.specs.declared.cmp.Ordering.TheVariants.{Less, Equal, Greater}
use Rattle.std.specs.Ordering.{is_lt, nat_cmp, ordering_then}
use lib.ListN.{length, get_or, drop}
use Rattle.meaning.specs.declared.Place.{Place}
use Rattle.meaning.specs.Lists.{In, only_if}
use Rattle.meaning.specs.Places.{below_or, lower, lower_of, lowest}
use Rattle.meaning.specs.Claims.{Before}
use Rattle.meaning.proofs.Lists.{in_append, Down, down_start, down_more, down_end}
use Rattle.meaning.proofs.Permute.{Same, same_refl}
use Rattle.meaning.proofs.Lowest.{lowest_is, lowest_one, lowest_same}
use Rattle.search.specs.Lowest.{found_of, lowest_in, lower_found, place_cmp, lower_by}

-- ---- the order of places, as the code compares them
below_cmp : (a b : ℕ) (o : Ordering) (next : Bool) → is_lt o ≡ next → is_lt (ordering_then (nat_cmp a b) o) ≡ below_or a b next
unfolding below_or
below_cmp a b o next h = go (ltb a b) (eqb a b)
  where
    go : (l e : Bool) → is_lt (ordering_then (cond l Less (cond e Equal Greater)) o) ≡ (l || (e && next))
    go true e = refl
    go false true = h
    go false false = refl

-- the last number decides alone
last_cmp : (a b : ℕ) → is_lt (nat_cmp a b) ≡ below_or a b false
unfolding below_or
last_cmp a b = go (ltb a b) (eqb a b)
  where
    go : (l e : Bool) → is_lt (cond l Less (cond e Equal Greater)) ≡ (l || (e && false))
    go true e = refl
    go false true = refl
    go false false = refl

-- a place is lower exactly where it compares less
pub place_lower : (p q : Place) → is_lt (place_cmp p q) ≡ lower p q
unfolding lower
place_lower p q =
    let third = nat_cmp p.third q.third in
    let second = ordering_then (nat_cmp p.second q.second) third in
    below_cmp p.first q.first second _ (below_cmp p.second q.second third _ (last_cmp p.third q.third))

-- so the lower of two answers by that order is the lower one
pub lower_places : (a b : Option Place) → lower_by place_cmp a b ≡ lower_found a b
lower_places None b = refl
lower_places (Some p) None = refl
lower_places (Some p) (Some q) = rw (place_lower q p) refl

-- ---- one test
pub place_tested : (broken : Bool) (p : Place) → then_some broken p ≡ lowest_in (only_if broken p)
unfolding lowest_in lowest lower_of
place_tested true p = refl
place_tested false p = refl

-- ---- the lowest place of a list, as its members say
pub lowest_none : lowest_in [] ≡ None
unfolding lowest_in lowest
lowest_none = refl

pub lowest_members : (xs ys : List Place) → Same xs ys → lowest_in xs ≡ lowest_in ys
unfolding lowest_in
lowest_members xs ys s = ap found_of (lowest_same xs ys s)

-- a listed place with none before it
pub found_first : (p : Place) (xs : List Place) → In p xs → ((q : Place) → In q xs → Before q p → ⊥) → Some p ≡ lowest_in xs
unfolding lowest_in
found_first p xs m first = ap found_of (lowest_one xs xs (some p) (lowest xs) (same_refl xs) (m, first) (lowest_is xs))

pub found_none : (xs : List Place) → ((q : Place) → In q xs → ⊥) → None ≡ lowest_in xs
found_none [] empty = sym lowest_none
found_none (p ∷ xs) empty = absurd (empty p (inl refl))

-- a search finds nothing exactly where no place is listed
pub empty_found : (xs : List Place) → xs ≡ [] → None ≡ lowest_in xs
empty_found xs e = rw e (sym lowest_none)

pub none_listed : (xs : List Place) → None ≡ lowest_in xs → xs ≡ []
unfolding lowest_in lowest lower_of
none_listed [] e = refl
none_listed (p ∷ xs) e = absurd (never (lowest xs) e)
  where
    never : (o : listed.Option Place) → None ≡ found_of (lower_of p o) → ⊥
    never none e = let z : ◌≡◌ {A = ℕ} 0 1 = cc in omega arith
    never (some q) e = let z : ◌≡◌ {A = ℕ} 0 1 = cc in omega arith

-- ---- two lists, one behind the other
lowest_more : (p : Place) (ps : List Place) → lowest_in (p ∷ ps) ≡ lower_found (Some p) (lowest_in ps)
unfolding lowest_in lowest lower_of
lowest_more p ps = go (lowest ps)
  where
    go : (o : listed.Option Place) → found_of (lower_of p o) ≡ lower_found (Some p) (found_of o)
    go none = refl
    go (some q) = refl

lowest_turned : (xs ys : List Place) → lowest_in (xs ++ ys) ≡ lowest_in (ys ++ xs)
lowest_turned xs ys = lowest_members (xs ++ ys) (ys ++ xs) (turned xs ys, turned ys xs)
  where
    turned : (xs ys : List Place) (p : Place) → In p (xs ++ ys) → In p (ys ++ xs)
    turned xs ys p m = (in_append p ys xs).1 (⊎_elim (λ k. inr k) (λ k. inl k) ((in_append p xs ys).0 m))

lowest_two : (p q : Place) → lowest_in (p ∷ q ∷ []) ≡ lower_found (Some p) (Some q)
unfolding lowest_in lowest lower_of
lowest_two p q = lowest_more p (q ∷ [])

found_alone : (a : Option Place) → lower_found a None ≡ a
found_alone (Some p) = refl
found_alone None = refl

-- the answers of three searches may be joined from either end
found_three : (a b c : Option Place) → lower_found a (lower_found b c) ≡ lower_found (lower_found a b) c
found_three None b c = refl
found_three (Some p) None c = refl
found_three (Some p) (Some q) None = sym (found_alone (lower_found (Some p) (Some q)))
found_three (Some p) (Some q) (Some r) =
    ap (lower_found (Some p)) (sym (lowest_two q r)) ∙ sym (lowest_more p (q ∷ r ∷ [])) ∙ lowest_turned (p ∷ q ∷ []) (r ∷ []) ∙ lowest_more r (p ∷ q ∷ [])
    ∙ ap (lower_found (Some r)) (lowest_two p q) ∙ exchanged (lower_found (Some p) (Some q))
  where
    exchanged : (a : Option Place) → lower_found (Some r) a ≡ lower_found a (Some r)
    exchanged None = refl
    exchanged (Some q) = sym (lowest_two r q) ∙ lowest_turned (r ∷ []) (q ∷ []) ∙ lowest_two q r

pub lowest_append : (xs ys : List Place) → lowest_in (xs ++ ys) ≡ lower_found (lowest_in xs) (lowest_in ys)
lowest_append [] ys = rw lowest_none refl
lowest_append (p ∷ xs) ys =
    lowest_more p (xs ++ ys) ∙ ap (lower_found (Some p)) (lowest_append xs ys) ∙ found_three (Some p) (lowest_in xs) (lowest_in ys)
    ∙ ap (λ (a : Option Place). lower_found a (lowest_in ys)) (sym (lowest_more p xs))

-- ---- a loop down a list
-- `found` is the lowest of the places that the elements from j on have
pub record LowestFrom {A : Type 0} (g : A → List Place) (l : List A) (j : ℕ) (found : Option Place) : Type 0 where
  pub down : Down (λ (r : List A). lowest_in (flat_map g r)) l j found

module _ {A : Type 0} {g : A → List Place} {l : List A} where
  pub from_start : {j : ℕ} → j ≡ length l → LowestFrom g l j None
  unfolding flat_map
  from_start e = record { down = down_start e (sym lowest_none) }

  -- one element more
  pub from_more : (d : A) {j : ℕ} {e : A} {f found r : Option Place} → LowestFrom g l j found → 0 < j → e ≡ get_or l (j - 1) d → f ≡ lowest_in (g e)
      → r ≡ lower_by place_cmp f found → LowestFrom g l (j - 1) r
  unfolding flat_map
  from_more d {j} {f = f} {found = found} h k ee ef er =
      let first : f ≡ lowest_in (g (get_or l (j - 1) d)) = ef ∙ ap (λ (a : A). lowest_in (g a)) ee in
      record { down = down_more d h.down k (er ∙ lower_places f found ∙ ap₂ lower_found first h.down.is ∙ sym (lowest_append (g (get_or l (j - 1) d)) (flat_map g (drop j l)))) }

  pub from_end : {j : ℕ} {found : Option Place} → LowestFrom g l j found → j ≤ 0 → found ≡ lowest_in (flat_map g l)
  from_end h k = down_end h.down k
