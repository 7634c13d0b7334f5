-- Parts of a list that are lent one behind the other and come back filled.
use mathlib.Core.Path.{◌≡◌, ap, ◌∙◌}
use mathlib.Core.List.{List, [], ◌++◌, append_assoc, append-nil}
use Prim.Native.Nat.{ℕ, ◌+◌, ◌≤◌}
use borrow.Rule.Slice.PartMut.{put_mid}
use lib.ListN.{length, drop, drop_of_length-le}
use lib.Seq.{drop-drop}
use Rattle.trucks.proofs.Repeat.{put_next}

-- three parts, from the first word to the last
pub three_parts : (l first second third : List ℕ) (a b c at : ℕ) → length first ≡ a → length (first ++ second) ≡ at → length l ≤ a + (b + c)
    → put_mid at c (put_mid a b (put_mid 0 a l first) second) third ≡ first ++ (second ++ third)
three_parts l first second third a b c at ea eat long =
    let none : drop c (drop b (drop a l)) ≡ [] = drop-drop c b (drop a l) ∙ drop-drop (b + c) a l ∙ drop_of_length-le l long in
    ap (λ (x : List ℕ). put_mid at c x third) (put_next first (drop a l) second a b ea)
    ∙ put_next (first ++ second) (drop b (drop a l)) third at c eat
    ∙ rw (none, append-nil) (append_assoc first second third)
