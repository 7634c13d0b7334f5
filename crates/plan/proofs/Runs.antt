-- Words put in the place of others: behind words that stay, one run behind the other, apart from each other, where zeros begin, and
-- into a part that was lent.
use mathlib.Core.Path.{◌≡◌, refl, sym, ap, ◌∙◌}
use mathlib.Core.List.{List, [], ◌∷◌, ◌++◌, append_assoc, append-nil}
use Prim.Native.Nat.{ℕ, ◌+◌, ◌-◌, ◌≤◌, ◌<◌}
use native.Mathlib.Numerals.{add-one}
use native.Mathlib.Omega.{arith}
use borrow.Rule.Slice.PartMut.{put_mid}
use lib.ListN.{length, take, drop, set, replicate, length-append, length-replicate, length-drop, take-append-drop, drop_of_length-le, replicate-append-replicate}
use lib.Seq.{length-take-le, take_all, take-take, take-append-le, take-append-add, drop-append-add, drop-drop, drop_at, set_split}
use Rattle.meaning.specs.Lists.{padded}
use Rattle.plan.specs.Words.{spliced}

-- words that stand in front stay
pub splice_behind : (front rest ys : List ℕ) (at n : ℕ) → n ≡ length front + at → spliced n ys (front ++ rest) ≡ front ++ spliced at ys rest
splice_behind front rest ys at n e =
    let k : n + length ys ≡ length front + (at + length ys) = omega arith in
    rw (k, e, take-append-add front rest at, drop-append-add front rest (at + length ys)) (append_assoc front (take at rest) (ys ++ drop (at + length ys) rest))

-- the same of the first words of a list
splice_past : (xs ys : List ℕ) (from at n : ℕ) → from ≤ length xs → n ≡ from + at → spliced n ys xs ≡ take from xs ++ spliced at ys (drop from xs)
splice_past xs ys from at n h e =
    let long : length (take from xs) ≡ from = length-take-le from xs h in
    ap (spliced n ys) (sym (take-append-drop from xs)) ∙ splice_behind (take from xs) (drop from xs) ys at n (omega arith)

module _ (xs ys zs : List ℕ) (at n : ℕ) where
  -- a run behind the words of the one before it
  splice_after : at ≤ length xs → at + length ys ≤ n
      → spliced n zs (spliced at ys xs) ≡ take at xs ++ (ys ++ spliced (n - (at + length ys)) zs (drop (at + length ys) xs))
  splice_after h k =
      let long : length (take at xs) ≡ at = length-take-le at xs h in
      let later = drop (at + length ys) xs in
      splice_behind (take at xs) (ys ++ later) zs (n - at) n (omega arith)
      ∙ ap (λ (l : List ℕ). take at xs ++ l) (splice_behind ys later zs (n - (at + length ys)) (n - at) (omega arith))

  -- a run put right behind the one before it
  pub splice_next : at ≤ length xs → n ≡ at + length ys → spliced n zs (spliced at ys xs) ≡ spliced at (ys ++ zs) xs
  splice_next h e =
      let none : n - (at + length ys) ≡ 0 = omega arith in
      let size : at + length ys + (0 + length zs) ≡ at + length (ys ++ zs) = simp length-append (omega arith) in
      splice_after h (omega arith)
      ∙ rw (none, drop-drop (0 + length zs) (at + length ys) xs, size)
      (ap (λ (l : List ℕ). take at xs ++ l) (sym (append_assoc ys zs (drop (at + length (ys ++ zs)) xs))))

  -- two runs apart from each other are put in any order
  pub splice_apart : at + length ys ≤ n → n ≤ length xs → spliced n zs (spliced at ys xs) ≡ spliced at ys (spliced n zs xs)
  splice_apart h k =
      let end = at + length ys in
      let front = take end xs in
      let back = spliced (n - end) zs (drop end xs) in
      let long : length front ≡ end = length-take-le end xs (omega arith) in
      let within : at ≤ length front = omega arith in
      let within' : at ≤ end = omega arith in
      splice_after (omega arith) h
      ∙ sym
      (ap (spliced at ys) (splice_past xs zs end (n - end) n (omega arith) (omega arith))
      ∙ rw (take-append-le at front back within, take-take at end xs within', drop_at front back end long))

-- a store is a run of one word
pub set_splices : (xs : List ℕ) (at v : ℕ) → at < length xs → set xs at v ≡ spliced at (v ∷ []) xs
set_splices xs at v h = rw (add-one at) (set_split xs at v h)

-- a run put in the place of as many words
splice_over : (front old run rest : List ℕ) (at : ℕ) → length front ≡ at → length old ≡ length run
    → spliced at run (front ++ (old ++ rest)) ≡ front ++ (run ++ rest)
splice_over front old run rest at e k =
    splice_behind front (old ++ rest) run 0 at (omega arith)
    ∙ ap (λ (l : List ℕ). front ++ (run ++ l)) (drop_at old rest (0 + length run) (omega arith))

-- a run put where the zeros begin
pub splice_padded : (size at : ℕ) (ws run rest : List ℕ) → length ws ≡ at → at + length run ≤ size
    → spliced at run (padded size ws ++ rest) ≡ padded size (ws ++ run) ++ rest
splice_padded size at ws run rest e h =
    let left = size - length (ws ++ run) in
    let old = replicate {A = ℕ} (length run) 0 in
    let zeros = replicate {A = ℕ} left 0 in
    let enough : size - length ws ≡ length run + left = simp length-append (omega arith) in
    rw (enough, ← replicate-append-replicate {A = ℕ} (length run) left 0, append_assoc ws (old ++ zeros) rest, append_assoc old zeros rest)
    (splice_over ws old run (zeros ++ rest) at e (length-replicate {A = ℕ} (length run) 0)
    ∙ rw (append_assoc (ws ++ run) zeros rest) (sym (append_assoc ws run (zeros ++ rest))))

-- a run put into the words behind the first `from`, which were lent and have come back
pub splice_lent : (xs ys run : List ℕ) (from at : ℕ) → from ≤ length xs
    → ys ≡ spliced at run (take (length xs - from) (drop from xs)) → put_mid from (length xs - from) xs ys ≡ spliced (from + at) run xs
splice_lent xs ys run from at h e =
    let all : length (drop from xs) ≤ length xs - from = simp length-drop (omega arith) in
    rw (e, take_all (length xs - from) (drop from xs) all, drop_of_length-le (drop from xs) all, append-nil)
    (sym (splice_past xs run from at (from + at) h refl))
