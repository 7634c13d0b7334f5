-- What an answer of `parse_line` tells its caller: the numbers and words of the line, and what the line is to a form.
use mathlib.Core.Path.{◌≡◌, refl, sym, ap, ◌∙◌}
use mathlib.Core.Bool.{Bool, true, false, cond}
use mathlib.Core.Option.{Option as Maybe, none, some}
use mathlib.Core.List.{List, [], ◌∷◌, ◌++◌, map}
use Prim.Native.Nat.{ℕ, zero, suc, ◌+◌, ◌≤◌, ◌<◌}
use native.Mathlib.Omega.{arith}
use lib.Dec.{ltb}
use lib.ListN.{length, take, drop, length-map}
use lib.Seq.{sets, sets-eq}
use Rattle.std.specs.Prelude.{None, Some}
use Rattle.meaning.specs.Lists.{between}
use Rattle.meaning.specs.Text.{bytes, count_before, number, numbers, and_numbers, comma_parts, value_after, numbers_of, line_numbers}
use Rattle.meaning.specs.Text.{Form, entries, bad_form, bad_range, judged_line, take_line}
use Rattle.meaning.proofs.Tests.{lt_reads, between_reads}
use Rattle.text.specs.declared.ParsedLine.{ParsedLine}
use Rattle.text.specs.Words.{word, parsed_numbers, line_answer, parsed_line, onto_words, leading, value_words, line_words}

-- ---- where all parts are numbers and there is room, each number is stored as a word
leading_all : (room : ℕ) (parts : List (List ℕ)) (ns : List ℕ) → numbers parts ≡ some ns → length ns ≤ room → leading room parts ≡ map word ns
unfolding numbers and_numbers leading onto_words
leading_all room [] ns e h = let none_left : ns ≡ [] = cc in rw none_left
leading_all room (part ∷ parts) ns e h = go room (number part) (numbers parts) refl refl e h (λ r ms. leading_all r parts ms)
  where
    go : (r : ℕ) (o : Maybe ℕ) (os : Maybe (List ℕ)) → number part ≡ o → numbers parts ≡ os → and_numbers o os ≡ some ns → length ns ≤ r
        → ((r : ℕ) (ms : List ℕ) → numbers parts ≡ some ms → length ms ≤ r → leading r parts ≡ map word ms) → leading r (part ∷ parts) ≡ map word ns
    go r none os p q e h rec = cc
    go r (some n) none p q e h rec = cc
    go zero (some n) (some ms) p q e h rec = let same : ns ≡ n ∷ ms = cc in absurd (omega (arith, ap length same))
    go (suc r) (some n) (some ms) p q e h rec =
        let same : ns ≡ n ∷ ms = cc in
        let size = ap length same in
        rw (p, same) (ap (λ (ws : List ℕ). word n ∷ ws) (rec r ms q (omega arith)))

value_words_lem : (room : ℕ) (o : Maybe (List ℕ)) (ns : List ℕ) → numbers_of o ≡ some ns → length ns ≤ room → value_words room o ≡ map word ns
unfolding numbers_of value_words
value_words_lem room none ns e h = cc
value_words_lem room (some value) ns e h = leading_all room (comma_parts value) ns e h

-- ---- a line that was taken: where the next one begins, and its numbers, which are stored as words
pub record LineStored (key : List ℕ) (least most at : ℕ) (bs : List ℕ) (c n : ℕ) : Type 0 where
  pub ended : count_before 10 bs < length bs
  pub next : c ≡ at + count_before 10 bs + 1
  pub onward : at < c
  pub inside : c ≤ at + length bs
  pub enough : least ≤ n
  pub room : n ≤ most
  pub ns : List ℕ
  pub read : numbers_of (value_after key (take (count_before 10 bs) bs)) ≡ some ns
  pub many : length ns ≡ n
  pub words : line_words key most bs ≡ map word ns
  pub size : length (line_words key most bs) ≡ n

-- an answer that names the next line names the count, which is in range
next_reads : (least most end c n : ℕ) (ns : List ℕ) → line_answer end (parsed_numbers least most (some ns)) ≡ Some (record { next = c; count = n })
    → (least ≤ n) × (n ≤ most) × (length ns ≡ n) × (c ≡ end + 1)
unfolding line_answer parsed_numbers
next_reads least most end c n ns e = go (between least most (length ns)) refl e
  where
    go : (t : Bool) → between least most (length ns) ≡ t → line_answer end (cond t (Some (length ns)) None) ≡ Some (record { next = c; count = n })
        → (least ≤ n) × (n ≤ most) × (length ns ≡ n) × (c ≡ end + 1)
    go true p e =
        let range = (between_reads least most (length ns)).0 p in
        let same : ◌≡◌ {A = ParsedLine} (record { next = end + 1; count = length ns }) (record { next = c; count = n }) = cc in
        let many : length ns ≡ n = ap (λ (l : ParsedLine). l.count) same in
        (omega arith, omega arith, many, sym (ap (λ (l : ParsedLine). l.next) same))
    go false p e = cc

pub line_stored_lem : (key : List ℕ) (least most at : ℕ) (bs : List ℕ) (c n : ℕ) → parsed_line key least most at bs ≡ Some (record { next = c; count = n }) → LineStored key least most at bs c n
unfolding parsed_line line_words line_answer parsed_numbers
line_stored_lem key least most at bs c n e = go (ltb (count_before 10 bs) (length bs)) (numbers_of (value_after key (take (count_before 10 bs) bs))) refl refl e
  where
    go : (t : Bool) (o : Maybe (List ℕ)) → ltb (count_before 10 bs) (length bs) ≡ t → numbers_of (value_after key (take (count_before 10 bs) bs)) ≡ o
        → cond t (line_answer (at + count_before 10 bs) (parsed_numbers least most o)) None ≡ Some (record { next = c; count = n }) → LineStored key least most at bs c n
    go false o p q e = cc
    go true none p q e = cc
    go true (some ns) p q e =
        let there = (lt_reads (count_before 10 bs) (length bs)).0 p in
        let k = next_reads least most (at + count_before 10 bs) c n ns e in
        let stored : line_words key most bs ≡ map word ns = rw p (value_words_lem most (value_after key (take (count_before 10 bs) bs)) ns q (omega arith)) in
        record {
          ended = there;
          next = k.3;
          onward = omega arith;
          inside = omega arith;
          enough = k.0;
          room = k.1;
          ns = ns;
          read = q;
          many = k.2;
          words = stored;
          size = ap length stored ∙ length-map ns word ∙ k.2;
        }

-- the stored words stand in front, and the rest is as before
pub words_in_front : {key : List ℕ} {least at : ℕ} {bs : List ℕ} {c n : ℕ} (out : List ℕ) (s : LineStored key least (length out) at bs c n)
    → sets out 0 (line_words key (length out) bs) ≡ map word s.ns ++ drop n out
words_in_front {n = n} out s =
    let many : 0 + length (map word s.ns) ≡ n = omega (arith, length-map s.ns word, s.many) in
    rw s.words (rw many at (sets-eq (map word s.ns) out 0 (omega arith)))

-- ---- what the line is to a form with this key and these counts
module _ (f : Form) {key : List ℕ} {least most : ℕ} (same_key : bytes f.key ≡ key) (same-least : f.least ≡ least) (same-most : f.most ≡ most) (bs : List ℕ) where
  pub line_refused : (at : ℕ) → parsed_line key least most at bs ≡ None → take_line f bs ≡ bad_form
  unfolding parsed_line line_answer parsed_numbers take_line judged_line line_numbers
  line_refused at e = rw same_key (go (ltb (count_before 10 bs) (length bs)) (numbers_of (value_after key (take (count_before 10 bs) bs))) e)
    where
      go : (t : Bool) (o : Maybe (List ℕ)) → cond t (line_answer (at + count_before 10 bs) (parsed_numbers least most o)) None ≡ None
          → cond t (judged_line f (drop (suc (count_before 10 bs)) bs) o) bad_form ≡ bad_form
      go false o e = refl
      go true none e = refl
      go true (some ns) e = rw (same-least, same-most) (counted (between least most (length ns)) e)
        where
          counted : (t : Bool) → line_answer (at + count_before 10 bs) (cond t (Some (length ns)) None) ≡ None
              → cond t (cond (f.fits ns) (entries ns (drop (suc (count_before 10 bs)) bs)) bad_range) bad_form ≡ bad_form
          counted true e = cc
          counted false e = refl

  pub line_judged : {at c n : ℕ} (s : LineStored key least most at bs c n)
      → take_line f bs ≡ cond (f.fits s.ns) (entries s.ns (drop (suc (count_before 10 bs)) bs)) bad_range
  unfolding take_line judged_line line_numbers
  line_judged s =
      let range : between f.least f.most (length s.ns) ≡ true = (between_reads f.least f.most (length s.ns)).1 (omega arith, omega arith) in
      rw ((lt_reads (count_before 10 bs) (length bs)).1 s.ended, same_key, s.read, range)
