-- The place of a number in a list, from 1, and whether it is listed, by the places of the list.
use Rattle.std.proofs.Common.{◌≡◌, refl, sym, ◌∙◌, ap, true, false, cond, ◌||◌, List, [], ◌∷◌, ℕ, suc, ◌+◌, ◌<◌, length, get_or, take, nat_eq, Option, Some, None, position, add-one}
use Rattle.std.specs.List.{position_from}
use Rattle.std.proofs.lemmas.Iterator.Adapters.{position_from-zero}
use Rattle.std.proofs.Math.Bool.{or-false}
use Rattle.std.proofs.Math.Seq.{take-suc}
use Rattle.meaning.specs.Lists.{any, listed, order_from, order_in}
use Rattle.meaning.proofs.Lists.{any_append}

-- a place from 0 as a place from 1, and 0 for none
abbrev pub order_of : Option ℕ → ℕ
order_of None = 0
order_of (Some place) = place + 1

order_places : (n k : ℕ) (l : List ℕ) → order_from (k + 1) n l ≡ order_of (position_from (nat_eq n) k l)
unfolding order_from
order_places n k [] = refl
order_places n k (m ∷ l) =
    let rest : order_from (suc (k + 1)) n l ≡ order_of (position_from (nat_eq n) (k + 1) l) = rw (add-one (k + 1)) at (order_places n (k + 1) l) in
    elim (nat_eq n m) as (λ b. cond b (k + 1) (order_from (suc (k + 1)) n l) ≡ order_of (cond b (Some k) (position_from (nat_eq n) (k + 1) l))) [
      | true ↦ refl
      | false ↦ rest
    ]

-- the order is one more than the place that is found
pub order_place : (n : ℕ) (l : List ℕ) → order_in l n ≡ order_of (position (nat_eq n) l)
order_place n l = order_places n 0 l ∙ ap order_of (sym (position_from-zero (nat_eq n) l))

-- one place more
pub listed_more : (n : ℕ) (l : List ℕ) (i : ℕ) → i < length l → listed n (take (i + 1) l) ≡ (listed n (take i l) || nat_eq n (get_or l i 0))
unfolding any
listed_more n l i h =
    let last : listed n (get_or l i 0 ∷ []) ≡ nat_eq n (get_or l i 0) = or-false (nat_eq n (get_or l i 0)) in
    rw (add-one i, take-suc l i 0 h) (any_append (nat_eq n) (take i l) (get_or l i 0 ∷ []) ∙ ap (λ b. listed n (take i l) || b) last)

pub listed_none : (n : ℕ) → false ≡ listed n []
unfolding any
listed_none n = refl
