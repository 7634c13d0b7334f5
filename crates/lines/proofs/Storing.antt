-- The answer for a line whose numbers are stored: what the meaning's reader finds, once the range test is made on the stored words.
use mathlib.Core.Path.{◌≡◌, refl, sym, ap, ◌∙◌}
use mathlib.Core.Bool.{Bool, true, false, cond}
use mathlib.Core.List.{List, [], ◌∷◌, ◌++◌, map}
use Prim.Native.Nat.{ℕ, suc, ◌+◌, ◌≤◌, ◌<◌}
use native.Mathlib.Numerals.{add-one}
use native.Mathlib.Omega.{arith}
use lib.ListN.{length, take, drop, length-map, length-drop}
use lib.Seq.{sets, take_at, drop_at, drop-drop}
use Rattle.meaning.specs.Lists.{Every}
use Rattle.meaning.specs.Text.{Form, entries, bad_range, count_before}
use Rattle.meaning.specs.Reader.{Outcome, at_line, line}
use Rattle.meaning.proofs.Tests.{true≢false}
use Rattle.meaning.proofs.Lists.{every_map}
use Rattle.text.specs.declared.ParsedLine.{ParsedLine}
use Rattle.text.specs.Words.{word, parsed_line, line_words}
use Rattle.text.proofs.Judged.{LineStored, line_stored_lem, line_refused, line_judged, words_in_front}
use Rattle.lines.specs.declared.cursor.Cursor.{Cursor}
use Rattle.std.specs.Prelude.{Option, Some, None, ok_or, Ok, Err, IsErrAnd}
use Rattle.lines.specs.declared.LineRefused.{LineRefused}
use Rattle.lines.specs.declared.LineRefused.TheVariants.{WrongForm, OutOfRange}
use Rattle.lines.specs.Within.{Within}
use Rattle.lines.specs.Progress.{Progress, reached, StoredLine, RefusesLargest, StoredPromise}

-- ---- words for numbers
-- what holds of all words holds of each number's word
of_words : (P : ℕ → Type 0) (ns : List ℕ) → Every P (map word ns) → Every (λ n. P (word n)) ns
of_words P [] h = tt
of_words P (n ∷ ns) h = (h.0, of_words P ns h.1)

-- words below the largest are the numbers themselves
same_words_lem : (ns : List ℕ) → Every (λ n. word n < 4294967295) ns → map word ns ≡ ns
same_words_lem [] h = refl
same_words_lem (n ∷ ns) h =
    let same : word n ≡ n = omega arith in
    rw (same, same_words_lem ns h.1)

-- ---- a line with number n, from 0, that the cursor `next` follows
module _ (n : ℕ) (next : Cursor) where
  -- its outcome by the range test
  abbrev judged_line : List ℕ → Bool → Outcome (List ℕ)
  judged_line ns t = reached ns (cond t (Ok next) (Err (OutOfRange n)))

  -- a form that refuses the largest word does the same with words as with numbers
  words_judged : (f : Form) → RefusesLargest f → (ns : List ℕ) → length ns ≤ f.most
      → judged_line (map word ns) (f.fits (map word ns)) ≡ judged_line ns (f.fits ns)
  words_judged f low ns h = go (f.fits (map word ns)) (f.fits ns) refl refl
    where
      go : (s t : Bool) → f.fits (map word ns) ≡ s → f.fits ns ≡ t → judged_line (map word ns) s ≡ judged_line ns t
      go true t p q =
          let same = same_words_lem ns (of_words _ ns (low (map word ns) (omega (arith, length-map ns word)) p)) in
          let passed : t ≡ true = sym q ∙ ap f.fits (sym same) ∙ p in
          rw (passed, same)
      go false true p q =
          let same = same_words_lem ns (every_map _ _ (λ n k. omega arith) ns (low ns h q)) in
          absurd (true≢false (sym q ∙ ap f.fits (sym same) ∙ p))
      go false false p q = refl

  -- the reader gives a line its number whatever the test finds
  at_line_lem : next.line ≡ suc n → (t : Bool) (ns : List ℕ) → judged_line ns t ≡ at_line (suc n) (cond t (entries ns (drop next.at next.file.now)) bad_range)
  unfolding at_line
  at_line_lem e true ns = rw e
  at_line_lem e false ns = refl

-- ---- a line is there, or it is refused
module _ {A E : Type 0} where
  pub there : (o : Option A) (e : E) {x : A} → ok_or o e ≡ Ok x → o ≡ Some x
  there (Some y) e h = cc
  there None e h = cc

  pub not_there : (o : Option A) (e : E) {y : E} → ok_or o e ≡ Err y → (o ≡ None) × (y ≡ e)
  not_there (Some y) e h = cc
  not_there None e h = (refl, cc)

-- what a `?` hands on is the refusal
pub stored_refused : {key out₀ out : List ℕ} {p : Progress} {least : ℕ} (r : StoredLine) {e e' : LineRefused} → IsErrAnd r (λ x. x ≡ e) → e ≡ e'
    → StoredPromise p key least out₀ (Err e') out → StoredPromise p key least out₀ r out
stored_refused (Ok s) h same i = absurd h
stored_refused (Err x) h same i = rw (h ∙ same) i

-- ---- what is promised of the line that follows p
module _ (key out₀ : List ℕ) (least : ℕ) (p : Progress) (here : Cursor) (before : p ≡ Ok here) (l : Option ParsedLine)
    (parsed : l ≡ parsed_line key least (length out₀) here.at (drop here.at here.file.now)) where
  -- the line is wrong in form
  pub line_wrong : {out : List ℕ} → l ≡ None → StoredPromise p key least out₀ (Err (WrongForm here.line)) out
  unfolding line at_line
  line_wrong e =
      record {
        says = λ f k b m low. rw (before, line_refused f k b m (drop here.at here.file.now) here.at (sym parsed ∙ e));
        follows = λ ok. rw before (omega (arith, here.within));
        room = omega arith;
        enough = λ none. absurd none;
        behind = λ none. absurd none;
      }

  module _ (parsed_as : ParsedLine) (taken : l ≡ Some parsed_as) where
    abbrev c : ℕ
    c = parsed_as.next

    abbrev m : ℕ
    m = parsed_as.count

    -- the parsed line
    abbrev line_stored : LineStored key least (length out₀) here.at (drop here.at here.file.now) c m
    line_stored = line_stored_lem key least (length out₀) here.at (drop here.at here.file.now) c m (sym parsed ∙ taken)

    -- no more lines than bytes, with this one
    pub next_within : Within here.file.now c (here.line + 1)
    next_within =
        (omega (arith, line_stored.onward, here.within), omega (arith, line_stored.inside, length-drop here.at here.file.now, here.within))

    -- its numbers are stored, and the next cursor stands behind it
    pub line_taken : (next : Cursor) → next.file.now ≡ here.file.now → next.at ≡ c → next.line ≡ here.line + 1
        → (out : List ℕ) → out ≡ sets out₀ 0 (line_words key (length out₀) (drop here.at here.file.now))
        → StoredPromise p key least out₀ (Ok (record { line = here.line; next = next; count = m })) out
    unfolding line at_line
    line_taken next same at behind out o =
        let s = line_stored in
        let n = here.line in
        let file = here.file.now in
        let bs = drop here.at file in
        let front : out ≡ map word s.ns ++ drop m out₀ = o ∙ words_in_front out₀ s in
        let many : length (map word s.ns) ≡ m = length-map s.ns word ∙ s.many in
        let words : take m out ≡ map word s.ns = ap (take m) front ∙ take_at (map word s.ns) (drop m out₀) m many in
        let end = suc (count_before 10 bs) in
        let place : here.at + end ≡ next.at = omega (arith, s.next) in
        let left : drop end bs ≡ drop next.at next.file.now =
        drop-drop end here.at file ∙ ap (λ (i : ℕ). drop i file) place ∙ ap (drop next.at) (sym same)
        in
        record {
          says = λ f k b d low.
              let judged = line_judged f k b d bs s ∙ ap (λ (rest : List ℕ). cond (f.fits s.ns) (entries s.ns rest) bad_range) left in
              rw words (words_judged n next f low s.ns (omega (arith, s.many, s.room)))
              ∙ at_line_lem n next (behind ∙ add-one n) (f.fits s.ns) s.ns
              ∙ ap (at_line (suc n)) (sym judged)
              ∙ rw before refl;
          follows = rw before (elim [ true ↦ same | false ↦ omega (arith, here.within) ]);
          room = s.room;
          enough = λ has. s.enough;
          behind = λ has. ap (drop m) front ∙ drop_at (map word s.ns) (drop m out₀) m many;
        }
