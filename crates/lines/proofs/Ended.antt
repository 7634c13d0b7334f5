-- The end of the file, as the code finds it and as the meaning's reader asks for it.
use mathlib.Core.Path.{◌≡◌, refl, sym, ap, ◌∙◌}
use mathlib.Core.List.{List, [], ◌∷◌}
use Prim.Native.Nat.{ℕ, suc, ◌<◌}
use native.Mathlib.Omega.{arith}
use lib.ListN.{length, drop, length-drop, drop_of_length-le}
use Rattle.meaning.specs.Reader.{Outcome, found, wrong_form, Reader, onward, ◌>>=◌, at_end}
use Rattle.meaning.proofs.Tests.{by_less}
use Rattle.std.specs.Prelude.{Ok, Err}
use Rattle.lines.specs.Progress.{Progress, reached, Going, Follows, ended_as, ReadInto}
use Rattle.lines.proofs.Follow.{onward_refused, resumed_onward, follows_on}

module _ {A : Type 0} (a : A) where
  -- bytes that are left are a line too many
  bytes_left : (n : ℕ) (bs : List ℕ) → 0 < length bs → at_end a n bs ≡ wrong_form n
  unfolding at_end
  bytes_left n [] h = absurd (omega arith)
  bytes_left n (b ∷ bs) h = refl

  none_left : (n : ℕ) (bs : List ℕ) → bs ≡ [] → at_end a n bs ≡ found a n bs
  unfolding at_end
  none_left n bs e = rw e

  pub ended_reached : (p : Progress) → reached a (ended_as p) ≡ onward (reached a p) at_end
  unfolding onward
  ended_reached (Ok c) =
      let n = suc c.line in
      let file = c.file.now in
      let rest = drop c.at file in
      by_less (λ (p : Progress). reached a p ≡ at_end a n rest) c.at (length file)
      (λ left. sym (bytes_left n rest (omega (arith, length-drop c.at file)))) (λ end. sym (none_left n rest (drop_of_length-le file end)))
  ended_reached (Err e) = sym (onward_refused e at_end)

pub ended_follows : (p : Progress) → Follows p (ended_as p)
ended_follows (Ok c) = by_less (Follows (Ok c)) c.at (length c.file.now) (λ left. omega (arith, c.within)) (λ end. refl)
ended_follows (Err e) = refl

pub ended_going : (p : Progress) → Going (ended_as p) → Going p
ended_going (Ok c) g = tt
ended_going (Err e) g = g

-- what is read is the whole file, where that ends there
pub read_to_end : {A : Type 0} {R : Reader A} {words : A → List ℕ} {p r : Progress} {out : List ℕ}
    → ReadInto R words p r out → ReadInto (R >>= at_end) words p (ended_as r) out
read_to_end {A} {R = R} {p = p} {r = r} i = record {
  value = i.value;
  says = ended_reached i.value r ∙ ap (λ (x : Outcome A). onward x at_end) i.says ∙ resumed_onward p R at_end;
  holds = λ g. i.holds (ended_going r g);
  follows = follows_on p r _ i.follows (ended_follows r);
}
