-- The first line of some bytes, from where it ends, its key and the numbers of its value.
use mathlib.Core.Path.{◌≡◌, refl, sym}
use mathlib.Core.Option.{Option as Maybe, none, some}
use mathlib.Core.List.{List}
use Prim.Native.Nat.{ℕ, ◌+◌, ◌-◌, ◌≤◌, ◌<◌}
use borrow.Author.Tests.{le-ltb, lt-ltb}
use lib.Dec.{ltb}
use lib.ListN.{length, take, drop}
use lib.Seq.{sets}
use Rattle.std.specs.Prelude.{Option, None}
use Rattle.meaning.specs.Text.{count_before, numbers, comma_parts, value_after, numbers_of}
use Rattle.text.specs.declared.ParsedLine.{ParsedLine}
use Rattle.text.specs.Words.{parsed_numbers, line_answer, parsed_line, leading, value_words, line_words}
use Rattle.text.proofs.Bytes.{found_size, found_test}

-- ---- what `parse_line` promises, from what the functions that it calls say of the line that begins at `at` and ends before `end`
module _ (key : List ℕ) (least : ℕ) (out bytes : List ℕ) (at : ℕ) where
  abbrev pub LinePromise : List ℕ → Option ParsedLine → Type 0
  LinePromise out₁ r = (r ≡ parsed_line key least (length out) at (drop at bytes)) × (out₁ ≡ sets out 0 (line_words key (length out) (drop at bytes)))

  -- the bytes of the line, which is there where a byte 10 is
  module _ (end : ℕ) where
    abbrev line : List ℕ
    line = take (end - at) (drop at bytes)

    module _ (found : end ≡ at + count_before 10 (drop at bytes)) where
      there : ltb (count_before 10 (drop at bytes)) (length (drop at bytes)) ≡ ltb end (length bytes)
      there = sym (found_test 10 bytes at end found)

      pub unended : length bytes ≤ end → LinePromise out None
      unfolding parsed_line line_words
      unended h = (simp (there, le-ltb end (length bytes) h), simp (there, le-ltb end (length bytes) h))

      module _ (h : end < length bytes) where
        -- the value is what stands after the key, if there is one, and the line has the value's numbers and words
        line_is : (o : Maybe (List ℕ)) (out₁ : List ℕ) → o ≡ value_after key line → out₁ ≡ sets out 0 (value_words (length out) o)
            → LinePromise out₁ (line_answer end (parsed_numbers least (length out) (numbers_of o)))
        unfolding parsed_line line_words
        line_is o out₁ e w =
            let same : value_after key (take (count_before 10 (drop at bytes)) (drop at bytes)) ≡ o = rw (found_size 10 bytes at end found) at (sym e) in
            (rw (there, lt-ltb end (length bytes) h, same, ← found) refl, rw (there, lt-ltb end (length bytes) h, same) w)

        pub other_key : none ≡ value_after key line → LinePromise out None
        unfolding parsed_numbers numbers_of value_words line_answer
        other_key e = line_is none out e refl

        pub keyed_line : (value out₁ : List ℕ) → some value ≡ value_after key line
            → (r : Option ℕ) → r ≡ parsed_numbers least (length out) (numbers (comma_parts value))
            → out₁ ≡ sets out 0 (leading (length out) (comma_parts value)) → LinePromise out₁ (line_answer end r)
        unfolding numbers_of value_words
        keyed_line value out₁ keyed r n w = rw n (line_is (some value) out₁ keyed w)
