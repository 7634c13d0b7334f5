-- Parts of a list: so many elements from a place on, and rows of one width.
use mathlib.Core.Path.{◌≡◌, refl, ap, ◌∙◌}
use mathlib.Core.List.{List, [], ◌∷◌, map}
use Prim.Native.Nat.{ℕ, zero, suc, ◌+◌, ◌*◌, ◌≤◌, ◌<◌}
use native.Mathlib.Omega.{arith}
use lib.ListN.{length, get_or, take, drop, length-take, length-drop, length-map}
use lib.Seq.{get_or-take, get_or-drop, drop-drop, take-take}
use Rattle.meaning.specs.Lists.{chunks}
use Rattle.meaning.proofs.Lists.{map_at}

module _ {A : Type 0} where
  -- n elements, from place `at` on
  abbrev pub part : ℕ → ℕ → List A → List A
  part at n l = take n (drop at l)

  pub part_at : (at n k : ℕ) (l : List A) (d : A) → k < n → get_or (part at n l) k d ≡ get_or l (at + k) d
  part_at at n k l d h = get_or-take n (drop at l) k d h ∙ get_or-drop at l k d

  pub length_part : (at n : ℕ) (l : List A) → at + n ≤ length l → length (part at n l) ≡ n
  length_part at n l h = simp (length-take, length-drop) (omega arith)

  -- a part that has few elements though more stand there was asked to have few
  pub part_short : (at n most : ℕ) (l : List A) → at + most < length l → length (part at n l) ≤ most → n ≤ most
  part_short at n most l h few = let k = simp (length-take, length-drop) at few in omega arith

  -- a part of the front
  pub part_front : (a b n : ℕ) (l : List A) → a + b ≤ n → part a b (take n l) ≡ part a b l
  part_front zero b n l h = take-take b n l (omega arith)
  part_front (suc a) b zero l h = absurd (omega arith)
  part_front (suc a) b (suc n) [] h = refl
  part_front (suc a) b (suc n) (x ∷ l) h = part_front a b n l (omega arith)

  -- ---- rows
  pub length_chunks : (w n : ℕ) (l : List A) → length (chunks w n l) ≡ n
  unfolding chunks
  length_chunks w zero l = refl
  length_chunks w (suc n) l = ap suc (length_chunks w n (drop w l))

  chunk_first : (w n k : ℕ) (l : List A) → k < n → get_or (chunks w n l) k [] ≡ part (w * k) w l
  unfolding chunks
  chunk_first w zero k l h = absurd (omega arith)
  chunk_first w (suc n) zero l h = let e : w * 0 ≡ 0 = omega arith in rw e
  chunk_first w (suc n) (suc k) l h =
      let e : w + w * k ≡ w * suc k = omega arith in
      chunk_first w n k (drop w l) (omega arith) ∙ ap (take w) (drop-drop (w * k) w l ∙ ap (λ (j : ℕ). drop j l) e)

  -- the row at place k, of rows that begin at `at`
  pub chunk_at : (w n k at : ℕ) (l : List A) → k < n → get_or (chunks w n (drop at l)) k [] ≡ part (at + w * k) w l
  chunk_at w n k at l h = chunk_first w n k (drop at l) h ∙ ap (take w) (drop-drop (w * k) at l)

-- what is made of the rows
module _ {A B : Type 0} (f : List A → B) (w n : ℕ) where
  pub length_made : (l : List A) → length (map f (chunks w n l)) ≡ n
  length_made l = length-map (chunks w n l) f ∙ length_chunks w n l

  pub made_at : (k at : ℕ) (l : List A) (e : B) → k < n → get_or (map f (chunks w n (drop at l))) k e ≡ f (part (at + w * k) w l)
  made_at k at l e h = map_at f (chunks w n (drop at l)) k [] e (rw (length_chunks w n (drop at l)) h) ∙ ap f (chunk_at w n k at l h)

-- ---- a list that stands behind its count
-- in a row of w numbers: its count is at place `at` of the row
abbrev pub behind : ℕ → List ℕ → List ℕ
behind at row = part (at + 1) (get_or row at 0) row
