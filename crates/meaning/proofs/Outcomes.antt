-- What a reader finds and what it leaves, and that a line is read alone, whatever bytes follow it.
use mathlib.Core.Path.{◌≡◌, refl, sym, ap, ◌∙◌}
use mathlib.Core.Bool.{Bool, true, false, cond}
use mathlib.Core.Option.{Option, none, some}
use mathlib.Core.List.{List, [], ◌∷◌, ◌++◌, append_assoc}
use Prim.Native.Nat.{ℕ, suc, ◌<◌}
use native.Mathlib.Nat.{not-suc-le-zero, le_of_suc-le-suc}
use native.Mathlib.Omega.{arith}
use borrow.Author.Tests.{eqb-false, ne_eqb}
use lib.Dec.{ltb, eqb}
use lib.ListN.{length, take, drop, length-append}
use lib.Seq.{take-append_seam}
use Rattle.meaning.specs.Lists.{any, between, listed}
use Rattle.meaning.specs.Text.{Form, entries, bad_form, bad_range, count_before, judged_line, take_line, line_numbers}
use Rattle.meaning.specs.Reader.{Outcome, found, wrong_form, out_of_range, Reader, onward, at_line, line}
use Rattle.meaning.specs.Reorder.{ended, OneLine}
use Rattle.meaning.specs.Meets.{Meets}
use Rattle.meaning.proofs.Tests.{or_false, lt_reads, eq_reads, between_reads}

-- ---- properties of an outcome
-- where something is found, P holds of it and of the bytes that are left
abbrev pub Leaves : {A : Type 0} → (A → List ℕ → Type 0) → Outcome A → Type 0
Leaves P (found a n rest) = P a rest
Leaves P (wrong_form n) = Unit {0}
Leaves P (out_of_range n) = Unit {0}

-- something is found, and P holds of it and of the bytes that are left
abbrev pub Finds : {A : Type 0} → (A → List ℕ → Type 0) → Outcome A → Type 0
Finds P (found a n rest) = P a rest
Finds P (wrong_form n) = ⊥
Finds P (out_of_range n) = ⊥

-- two readers one after the other
module _ {A B : Type 0} (P : A → List ℕ → Type 0) (Q : B → List ℕ → Type 0) where
  pub leaves_onward : (r : Outcome A) (next : A → Reader B) → Leaves P r → ((a : A) (n : ℕ) (bs : List ℕ) → P a bs → Leaves Q (next a n bs))
      → Leaves Q (onward r next)
  unfolding onward
  leaves_onward (found a n rest) next h k = k a n rest h
  leaves_onward (wrong_form n) next h k = tt
  leaves_onward (out_of_range n) next h k = tt

pub leaves_map : {A : Type 0} (P Q : A → List ℕ → Type 0) → ((a : A) (bs : List ℕ) → P a bs → Q a bs) → (r : Outcome A) → Leaves P r → Leaves Q r
leaves_map P Q f (found a n rest) h = f a rest h
leaves_map P Q f (wrong_form n) h = tt
leaves_map P Q f (out_of_range n) h = tt

-- ---- what a line leaves
-- bytes with a byte 10 among them are the first line, its byte 10, and the rest
pub first_line : (bs : List ℕ) → count_before 10 bs < length bs → bs ≡ take (count_before 10 bs) bs ++ 10 ∷ drop (suc (count_before 10 bs)) bs
unfolding count_before
first_line [] h = absurd (not-suc-le-zero h)
first_line (b ∷ bs) h = go (first_line bs) (eqb b 10) refl h
  where
    go : (count_before 10 bs < length bs → bs ≡ take (count_before 10 bs) bs ++ 10 ∷ drop (suc (count_before 10 bs)) bs)
        → (t : Bool) → eqb b 10 ≡ t → cond t 0 (suc (count_before 10 bs)) < length (b ∷ bs)
        → b ∷ bs ≡ take (cond t 0 (suc (count_before 10 bs))) (b ∷ bs) ++ 10 ∷ drop (suc (cond t 0 (suc (count_before 10 bs)))) (b ∷ bs)
    go rec true e k = ap (λ (c : ℕ). c ∷ bs) ((eq_reads b 10).0 e)
    go rec false e k = ap (λ (w : List ℕ). b ∷ w) (rec (le_of_suc-le-suc k))

module _ (f : Form) (P : List ℕ → List ℕ → Type 0) where
  -- numbers that the form takes are as many as it wants and in range
  leaves_judged : (rest : List ℕ) (o : Option (List ℕ)) (n : ℕ) → ((ns : List ℕ) → o ≡ some ns → Meets f ns → P ns rest)
      → Leaves P (at_line n (judged_line f rest o))
  unfolding judged_line at_line
  leaves_judged rest none n h = tt
  leaves_judged rest (some ns) n h = go (between f.least f.most (length ns)) (f.fits ns) refl refl
    where
      go : (b c : Bool) → between f.least f.most (length ns) ≡ b → f.fits ns ≡ c
          → Leaves P (at_line n (cond b (cond c (entries ns rest) bad_range) bad_form))
      go true true e k = let t = (between_reads f.least f.most (length ns)).0 e in h ns refl (record { least = t.0; most = t.1; fits = k })
      go true false e k = tt
      go false c e k = tt

  -- bytes from which a line is read are a line with those numbers, its byte 10, and the rest
  pub leaves_line : (n : ℕ) (bs : List ℕ)
      → ((l rest ns : List ℕ) → bs ≡ l ++ 10 ∷ rest → line_numbers f.key l ≡ some ns → Meets f ns → P ns rest)
      → Leaves P (line f n bs)
  unfolding line take_line at_line
  leaves_line n bs h = go (take (count_before 10 bs) bs) (drop (suc (count_before 10 bs)) bs) (first_line bs) (ltb (count_before 10 bs) (length bs)) refl
    where
      go : (l rest : List ℕ) → (count_before 10 bs < length bs → bs ≡ l ++ 10 ∷ rest) → (t : Bool) → ltb (count_before 10 bs) (length bs) ≡ t
          → Leaves P (at_line n (cond t (judged_line f rest (line_numbers f.key l)) bad_form))
      go l rest cut true e = leaves_judged rest (line_numbers f.key l) n (λ ns. h l rest ns (cut ((lt_reads _ _).0 e)))
      go l rest cut false e = tt

-- ---- a line is read alone
-- a byte that is not listed is neither the first nor listed behind it
pub not_listed : (c b : ℕ) (l : List ℕ) → listed c (b ∷ l) ≡ false → (eqb b c ≡ false) × (listed c l ≡ false)
unfolding any
not_listed c b l h = let t = (or_false (eqb c b) (listed c l)).0 h in (ne_eqb b c (λ e. eqb-false c b t.0 (sym e)), t.1)

-- the first byte 10 after a line is the one that ends it
pub count_line : (l rest : List ℕ) → OneLine l → count_before 10 (l ++ 10 ∷ rest) ≡ length l
unfolding count_before
count_line [] rest h = refl
count_line (b ∷ l) rest h = let t = not_listed 10 b l h in rw (t.0, count_line l rest t.1)

pub drop_line : (l rest : List ℕ) → drop (suc (length l)) (l ++ 10 ∷ rest) ≡ rest
drop_line [] rest = refl
drop_line (b ∷ l) rest = drop_line l rest

-- what is earlier from a line with bytes after it is decided by the line's numbers
take_ended : (f : Form) (l rest : List ℕ) → OneLine l → take_line f (ended l ++ rest) ≡ judged_line f rest (line_numbers f.key l)
unfolding take_line
take_ended f l rest h =
    let long : length l < length (l ++ 10 ∷ rest) = omega (arith, length-append l (10 ∷ rest)) in
    rw (append_assoc, count_line l rest h, (lt_reads (length l) (length (l ++ 10 ∷ rest))).1 long, drop_line l rest, take-append_seam l (10 ∷ rest))

pub line_ended : (f : Form) (l rest : List ℕ) (n : ℕ) → OneLine l → line f n (ended l ++ rest) ≡ at_line n (judged_line f rest (line_numbers f.key l))
unfolding line
line_ended f l rest n h = ap (at_line n) (take_ended f l rest h)

-- the numbers of the line l, with `rest` left
abbrev pub OfLine : Form → List ℕ → List ℕ → List ℕ → List ℕ → Type 0
OfLine f l rest ns left = (line_numbers f.key l ≡ some ns) × Meets f ns × (left ≡ rest)

pub leaves_ended : (f : Form) (l rest bs : List ℕ) (n : ℕ) → OneLine l → bs ≡ ended l ++ rest → Leaves (OfLine f l rest) (line f n bs)
leaves_ended f l rest bs n h e = rw (e, line_ended f l rest n h) (leaves_judged f (OfLine f l rest) rest (line_numbers f.key l) n (λ ns s k. (s, k, refl)))

-- a line whose numbers meet the form is found
pub finds_ended : (f : Form) (l rest : List ℕ) (n : ℕ) (ns : List ℕ) → OneLine l → line_numbers f.key l ≡ some ns → Meets f ns
    → line f n (ended l ++ rest) ≡ found ns (suc n) rest
unfolding judged_line at_line
finds_ended f l rest n ns h e k =
    line_ended f l rest n h
    ∙ ap (λ (o : Option (List ℕ)). at_line n (judged_line f rest o)) e
    ∙ rw ((between_reads f.least f.most (length ns)).1 (k.least, k.most), k.fits)
