-- Words in the place of others.
use mathlib.Core.Path.{◌≡◌, refl, sym, ap, ◌∙◌}
use mathlib.Core.List.{List, ◌++◌}
use Prim.Native.Nat.{ℕ, ◌+◌, ◌≤◌, ◌<◌}
use native.Mathlib.Omega.{arith}
use lib.ListN.{length, get_or, take, drop, get_or-append}
use lib.Seq.{take_at, drop_at, drop-drop, length-take-le, get_or-drop}
use borrow.Rule.Slice.PartMut.{put_mid}
use Rattle.plan.specs.Words.{spliced}

-- ---- ys in the place of words of xs
module _ (at : ℕ) (xs ys : List ℕ) where
  -- a part that was lent comes back
  pub put_spliced : (k : ℕ) → length ys ≡ k → put_mid at k xs ys ≡ spliced at ys xs
  put_spliced k e = rw (drop-drop k at xs, e) refl

  module _ (h : at ≤ length xs) where
    pub spliced_before : take at (spliced at ys xs) ≡ take at xs
    spliced_before = take_at (take at xs) _ at (length-take-le at xs h)

    pub spliced_there : (k : ℕ) → length ys ≡ k → take k (drop at (spliced at ys xs)) ≡ ys
    spliced_there k e = ap (take k) (drop_at (take at xs) _ at (length-take-le at xs h)) ∙ take_at ys _ k e

    pub spliced_first : 0 < length ys → get_or (spliced at ys xs) at 0 ≡ get_or ys 0 0
    spliced_first k =
        let behind = drop (at + length ys) xs in
        let from : drop at (spliced at ys xs) ≡ ys ++ behind = drop_at (take at xs) (ys ++ behind) at (length-take-le at xs h) in
        let here : at + 0 ≡ at = omega arith in
        rw here at (sym (get_or-drop at (spliced at ys xs) 0 0)) ∙ ap (λ (l : List ℕ). get_or l 0 0) from ∙ get_or-append ys behind 0 0 k
