-- The number of a line that has one: what it says and that it lies in its range.
use mathlib.Core.Path.{◌≡◌, refl, sym, ap, ◌∙◌}
use mathlib.Core.Bool.{Bool, true, false, ◌&&◌}
use mathlib.Core.List.{List, [], ◌∷◌}
use Prim.Native.Nat.{ℕ, ◌<◌}
use native.Mathlib.Omega.{arith}
use lib.ListN.{length, get_or}
use Rattle.meaning.specs.Lists.{between}
use Rattle.meaning.specs.Text.{bytes}
use Rattle.meaning.specs.Reader.{Reader, give, line}
use Rattle.meaning.specs.Files.{Range, ◌to◌, all_within, fields_line, number_line}
use Rattle.meaning.specs.Table.{largest_word}
use Rattle.std.specs.Prelude.{Ok, Err, IsErrAnd}
use Rattle.lines.specs.declared.cursor.Cursor.{Cursor}
use Rattle.lines.specs.declared.LineRefused.{LineRefused}
use Rattle.lines.specs.declared.LineValue.{LineValue}
use Rattle.lines.specs.Progress.{Key, Progress, outcome_of, reached, resumed, Follows, LineResult, told, progress_of, StoredLine, judged_as, StoredPromise, ReadInto}
use Rattle.lines.proofs.Follow.{past_reader, given_reached, same_reached}
use Rattle.lines.proofs.Judging.{full_read}
use Rattle.lines.proofs.Largest.{refuses_number}

-- one word: its test is that of the one range
one_within : (low high : ℕ) (out : List ℕ) → length out ≡ 1 → between low high (get_or out 0 0) ≡ all_within (low to high ∷ []) out
unfolding all_within
one_within low high [] one = absurd (omega arith)
one_within low high (n ∷ []) one = alone (between low high n)
  where
    alone : (b : Bool) → b ≡ (b && true)
    alone true = refl
    alone false = refl
one_within low high (n ∷ m ∷ out) one = absurd (omega arith)

-- the word is the number, judged by the range
pub number_says : {p : Progress} {key out₀ : List ℕ} {r : StoredLine} {out : List ℕ} (range : Range) → range.high < largest_word
    → StoredPromise p key 1 out₀ r out → length out₀ ≡ 1 → length out ≡ 1 → (ok : Bool) → ok ≡ between range.low range.high (get_or out 0 0)
    → (q : Progress) → q ≡ judged_as r ok → (k : Key) → bytes k ≡ key → reached (get_or out 0 0) q ≡ resumed p (number_line k range)
unfolding number_line
number_says {p} {r = r} {out = out} range h stored room one ok test q e k b =
    let f = fields_line k (range.low to range.high ∷ []) in
    let says = stored.says f b refl (sym room) (refuses_number k range.low range.high h) in
    let read = rw (← e) at (full_read stored (omega arith) f says ok (test ∙ one_within range.low range.high out one)) in
    let value = get_or read.value 0 0 in
    same_reached (get_or out 0 0) value q (λ g. ap (λ (l : List ℕ). get_or l 0 0) (read.holds g))
    ∙ sym (past_reader p q read.value (line f) (λ ns. give (get_or ns 0 0)) read.says ∙ given_reached value q)

-- a refusal that is passed on
pub told_refused : {A : Type 0} (a : LineResult A) (e : LineRefused) → IsErrAnd a (λ x. x ≡ e) → told a ≡ outcome_of e
told_refused (Ok f) e h = absurd h
told_refused (Err x) e h = ap outcome_of h

-- a number that was read, or its line refused, for callers that go on from there. It stands in no words yet
module _ {R : Reader ℕ} {p : Progress} {r : LineResult ℕ} where
  abbrev pub number_read : {f : LineValue Cursor ℕ} → r ≡ Ok f → told r ≡ resumed p R → Follows p (progress_of r) → ReadInto R (λ n. []) p (Ok f.next) []
  number_read {f} e says follows = record { value = f.value; says = rw e at says; holds = λ g. refl; follows = rw e at follows }

  pub number_refused : {e : LineRefused} → r ≡ Err e → told r ≡ resumed p R → Follows p (progress_of r) → ReadInto R (λ n. []) p (Err e) []
  number_refused e says follows = record { value = 0; says = rw e at says; holds = λ g. refl; follows = rw e at follows }
