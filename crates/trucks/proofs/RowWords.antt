-- A reader whose values are written as words at once reads what one does that keeps the values: `read_rows` tells of words alone, since no
-- clause can take the type of the values.
use mathlib.Core.Path.{◌≡◌, refl, sym, ap, ◌∙◌}
use mathlib.Core.List.{List, [], ◌∷◌, ◌++◌, map, flat_map}
use Prim.Native.Nat.{ℕ, zero, suc}
use lib.ListN.{drop}
use Rattle.std.specs.Prelude.{Ok, Err}
use Rattle.meaning.specs.Lists.{padded}
use Rattle.meaning.specs.Reader.{Outcome, found, wrong_form, out_of_range, Reader, give, onward, ◌>>=◌, times}
use Rattle.lines.specs.declared.LineRefused.TheVariants.{WrongForm, OutOfRange}
use Rattle.lines.specs.Progress.{Progress, reached, resumed, Going, ReadInto}
use Rattle.lines.proofs.Follow.{onward_same, onward_twice, onward_refused, behind_last}
use Rattle.trucks.specs.Rows.{rows}

module _ {A : Type 0} (R : Reader A) (w : A → List ℕ) where
  -- the words of what R reads
  abbrev pub in_words : Reader (List ℕ)
  in_words = R >>= λ a. give (w a)

  -- the words of each of many values
  abbrev each_in_words : List A → Reader (List (List ℕ))
  each_in_words vs = give (map w vs)

  pub words_read : {p r : Progress} {out : List ℕ} → ReadInto R w p r out → ReadInto in_words (λ words. words) p r out
  words_read i = behind_last i w i.holds

  times_words : (k n : ℕ) (bs : List ℕ) → times k in_words n bs ≡ onward (times k R n bs) each_in_words
  unfolding times onward
  times_words zero n bs = refl
  times_words (suc k) n bs =
      onward_twice (R n bs) _ _
      ∙ onward_same (R n bs) _ _ (λ a n₁ bs₁.
      ap (λ (x : Outcome (List (List ℕ))). onward x (λ rest. give (w a ∷ rest))) (times_words k n₁ bs₁)
      ∙ onward_twice (times k R n₁ bs₁) _ _
      ∙ sym (onward_twice (times k R n₁ bs₁) _ _))
      ∙ sym (onward_twice (R n bs) _ _)

  resumed_words : (k : ℕ) (p : Progress) → resumed p (times k in_words) ≡ onward (resumed p (times k R)) each_in_words
  resumed_words k (Ok c) = times_words k (suc c.line) (drop c.at c.file.now)
  resumed_words k (Err e) = sym (onward_refused e each_in_words)

  -- what is reached in words is so of values; after a refusal of none
  values : (ws : List (List ℕ)) (r : Progress) (o : Outcome (List A)) → reached ws r ≡ onward o each_in_words
      → (vs : List A) × (reached vs r ≡ o) × (Going r → ws ≡ map w vs)
  unfolding onward
  values ws (Ok c) (found vs k bs) e = (vs, cc, λ g. cc)
  values ws (Ok c) (wrong_form k) e = cc
  values ws (Ok c) (out_of_range k) e = cc
  values ws (Err (WrongForm n)) (found vs k bs) e = cc
  values ws (Err (WrongForm n)) (wrong_form k) e = ([], cc, λ g. absurd g)
  values ws (Err (WrongForm n)) (out_of_range k) e = cc
  values ws (Err (OutOfRange n)) (found vs k bs) e = cc
  values ws (Err (OutOfRange n)) (wrong_form k) e = cc
  values ws (Err (OutOfRange n)) (out_of_range k) e = ([], cc, λ g. absurd g)

  flat_words : (vs : List A) → flat_map (λ (ws : List ℕ). ws) (map w vs) ≡ flat_map w vs
  unfolding flat_map
  flat_words [] = refl
  flat_words (v ∷ vs) = ap (λ (rest : List ℕ). w v ++ rest) (flat_words vs)

  -- rows that were read in words
  pub rows_read : (k size : ℕ) {p r : Progress} {out : List ℕ}
      → ReadInto (times k in_words) (rows size (λ words. words)) p r out → ReadInto (times k R) (rows size w) p r out
  rows_read k size {p} {r} i =
      let v = values i.value r (resumed p (times k R)) (i.says ∙ resumed_words k p) in
      record {
        value = v.0;
        says = v.1;
        holds = λ g. i.holds g ∙ ap (padded size) (ap (flat_map (λ (ws : List ℕ). ws)) (v.2 g) ∙ flat_words v.0);
        follows = i.follows;
      }
