-- From a line that is stored to a line that is judged: what the answer then says.
use mathlib.Core.Path.{◌≡◌, refl, sym, ap, ◌∙◌}
use mathlib.Core.Bool.{Bool, true, false}
use mathlib.Core.List.{List, [], ◌∷◌, ◌++◌, append-nil}
use Prim.Native.Nat.{ℕ, suc, ◌+◌, ◌-◌, ◌≤◌}
use native.Mathlib.Omega.{arith}
use lib.ListN.{length, take, drop, set, replicate, take-append-drop, drop_of_length-le, length-replicate, replicate-append-replicate}
use lib.Seq.{length-take-le, drop_at, take_all}
use borrow.Rule.Slice.PartMut.{put_mid}
use Rattle.meaning.specs.Lists.{padded}
use Rattle.meaning.specs.Text.{Form}
use Rattle.meaning.specs.Reader.{Reader, line}
use Rattle.meaning.specs.Table.{counted_words}
use Rattle.std.specs.Prelude.{Ok, Err, IfOk, IsErrAnd}
use Rattle.lines.specs.declared.cursor.Cursor.{Cursor}
use Rattle.lines.specs.declared.LineRefused.{LineRefused}
use Rattle.lines.specs.declared.LineValue.{LineValue}
use Rattle.lines.specs.Progress.{Progress, outcome_of, LineResult, progress_of, Going, StoredLine, entries_of, HasNumbers, judged_as, judged_entries_as}
use Rattle.lines.specs.Progress.{JudgedBy, StoredPromise, ReadInto, ReadEntries}
use Rattle.lines.proofs.Follow.{read_meets}

-- ---- the cases of a stored line
-- the test decides nothing where the line was refused
same_judged : (r : StoredLine) (s t : Bool) → (HasNumbers r → s ≡ t) → judged_as r s ≡ judged_as r t
same_judged (Ok l) s t h = ap (judged_as (Ok l)) (h tt)
same_judged (Err e) s t h = refl

-- a line that is passed has its numbers stored
has_numbers : (r : StoredLine) (ok : Bool) → Going (judged_as r ok) → HasNumbers r
has_numbers (Ok l) ok g = tt
has_numbers (Err e) ok g = g

-- with the number of entries it is judged in the same way, and that is the number that the answer gives
entries_judged : (r : StoredLine) (ok : Bool) → progress_of (judged_entries_as r ok) ≡ judged_as r ok
entries_judged (Ok l) true = refl
entries_judged (Ok l) false = refl
entries_judged (Err e) ok = refl

entries_counted : (r : StoredLine) (ok : Bool) (n : ℕ) → entries_of r ≡ n → IfOk (judged_entries_as r ok) (λ f. f.value ≡ n)
entries_counted (Ok l) true n e = e
entries_counted (Ok l) false n e = tt
entries_counted (Err e) ok n h = tt

-- ---- a judged line
-- `test` says that the form's range test was made on the entries, `stand` how these stand in `out`
module _ {p : Progress} {key : List ℕ} {least : ℕ} {out₀ : List ℕ} {r : StoredLine} {out : List ℕ}
    (stored : StoredPromise p key least out₀ r out) (f : Form) (words : List ℕ → List ℕ)
    (says : JudgedBy f p r out)
    (ok : Bool) (test : HasNumbers r → ok ≡ f.fits (take (entries_of r) out))
    (stand : HasNumbers r → out ≡ words (take (entries_of r) out)) where
  pub judged_read : ReadInto (line f) words p (judged_as r ok) out
  judged_read = record {
    value = take (entries_of r) out;
    says = rw (same_judged r ok (f.fits (take (entries_of r) out)) test) says;
    holds = λ g. stand (has_numbers r ok g);
    follows = stored.follows ok;
  }

  pub judged_entries : length out ≡ length out₀ → ReadEntries (line f) words p (judged_entries_as r ok) out
  unfolding judged_read
  judged_entries long =
      let q = entries_judged r ok in
      let many = sym (length-take-le (entries_of r) out (omega (arith, stored.room))) in
      record {
        into = record { value = take (entries_of r) out; says = rw q judged_read.says; holds = rw q judged_read.holds; follows = rw q judged_read.follows };
        count = entries_counted r ok _ many;
      }

-- a line that fills its words is judged on all of them, and what was stored is what is read
pub full_read : {p : Progress} {key : List ℕ} {least : ℕ} {out₀ : List ℕ} {r : StoredLine} {out : List ℕ}
    → StoredPromise p key least out₀ r out → length out ≤ least → (f : Form) → JudgedBy f p r out
    → (ok : Bool) → ok ≡ f.fits out → ReadInto (line f) (λ ns. ns) p (judged_as r ok) out
full_read {r = r} {out = out} stored full f says ok test =
    let all : HasNumbers r → out ≡ take (entries_of r) out = λ has. sym (take_all (entries_of r) out (omega (arith, stored.enough has))) in
    judged_read stored f (λ ns. ns) says ok (λ has. test ∙ ap f.fits (all has)) all

-- so many zeros
abbrev zeros_of : ℕ → List ℕ
zeros_of n = replicate n 0

-- over zeros: behind what was written there are zeros still
pub zeros_behind_lem : (n k : ℕ) (out : List ℕ) → k ≤ n → length out ≡ n → drop k out ≡ drop k (replicate n 0) → out ≡ padded n (take k out)
zeros_behind_lem n k out h l e =
    let sum : k + (n - k) ≡ n = omega arith in
    let zeros : zeros_of n ≡ zeros_of k ++ zeros_of (n - k) = sym (replicate-append-replicate {A = ℕ} k (n - k) 0 ∙ ap zeros_of sum) in
    let rest : drop k out ≡ zeros_of (n - k) = e ∙ ap (drop k) zeros ∙ drop_at (zeros_of k) _ k (length-replicate {A = ℕ} k 0) in
    rw (length-take-le k out (omega arith)) (sym (take-append-drop k out) ∙ ap (λ (w : List ℕ). take k out ++ w) rest)

-- ---- entries and their count
-- a line has no more entries than its form allows
module _ (f : Form) {words : List ℕ → List ℕ} {p : Progress} {found : LineValue Cursor ℕ} {out : List ℕ}
    (read : ReadEntries (line f) words p (Ok found) out) where
  pub few_counted : found.value ≤ f.most
  few_counted = rw read.count (read_meets read.into.value f p (Ok found.next) read.into.says tt).most

-- what a `?` hands on is the refusal, and nothing is said of the words then
pub refused_entries : {reader : Reader (List ℕ)} {words words' : List ℕ → List ℕ} {p : Progress} {e : LineRefused} {out out' : List ℕ} (r : LineResult ℕ)
    → IsErrAnd r (λ x. x ≡ e) → ReadEntries reader words p (Err e) out → ReadEntries reader words' p r out'
refused_entries (Ok f) h i = absurd h
refused_entries (Err x) h i = record {
  into = record { value = i.into.value; says = ap outcome_of h ∙ i.into.says; holds = λ g. absurd g; follows = rw h i.into.follows };
  count = tt;
}

-- the words behind the first are lent and come back, and the first becomes the count
counted : (c : ℕ) (out lent : List ℕ) → 1 ≤ length out → set (put_mid 1 (length out - 1) out lent) 0 c ≡ c ∷ lent
counted c [] lent h = absurd (omega arith)
counted c (w ∷ out) lent h =
    let end : length out ≤ suc (length out) - 1 = omega arith in
    let none : drop (suc (length out) - 1) out ≡ [] = drop_of_length-le out end in
    ap (λ (l : List ℕ). c ∷ l) (rw none (append-nil lent))

pub counted_entries : {reader : Reader (List ℕ)} (n : ℕ) {p : Progress} {found : LineValue Cursor ℕ} {lent : List ℕ} (out : List ℕ)
    → 1 ≤ length out → ReadEntries reader (padded n) p (Ok found) lent
    → ReadEntries reader (counted_words n) p (Ok found) (set (put_mid 1 (length out - 1) out lent) 0 found.value)
counted_entries n {found = found} {lent = lent} out h i =
    let words = i.into.value in
    record {
      into =
          record {
            value = words;
            says = i.into.says;
            holds = λ g.
                counted found.value out lent h
                ∙ ap (λ (m : ℕ). m ∷ lent) i.count
                ∙ ap (λ (l : List ℕ). length words ∷ l) (i.into.holds g);
            follows = i.into.follows;
          };
      count = i.count;
    }
