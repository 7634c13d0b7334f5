-- The two lines of a stack, from what is stored and tested to what is read.
use mathlib.Core.Path.{◌≡◌, refl, sym, ap, ◌∙◌}
use mathlib.Core.Bool.{Bool, true, false, not, ◌&&◌}
use mathlib.Core.List.{List}
use Prim.Native.Nat.{ℕ, ◌+◌, ◌*◌, ◌≤◌, ◌<◌}
use native.Mathlib.Omega.{arith}
use lib.Dec.{leb}
use lib.ListN.{length, get_or, take, drop}
use lib.Seq.{take_at, length-take-le}
use borrow.Rule.Slice.PartMut.{put_mid}
use Rattle.meaning.specs.Lists.{all, between, listed, padded}
use Rattle.meaning.specs.Reader.{Reader}
use Rattle.meaning.specs.Files.{all_within, stack_ranges, stack_line, load_line}
use Rattle.meaning.specs.Model.{stack_number}
use Rattle.meaning.proofs.Tests.{and_reads}
use Rattle.meaning.proofs.Fields.{ranges_below, range_below}
use Rattle.std.specs.Prelude.{Ok, Err}
use Rattle.lines.specs.declared.cursor.Cursor.{Cursor}
use Rattle.lines.specs.declared.LineValue.{LineValue}
use Rattle.lines.specs.Progress.{Progress, RefusesLargest, StoredLine, entries_of, judged_entries_as, ReadEntries}
use Rattle.ranges.specs.Ranges.{row_numbers}
use Rattle.plan.specs.Words.{spliced}
use Rattle.plan.proofs.Splices.{put_spliced, spliced_there, spliced_first}
use Rattle.plan.proofs.Rows.{rows_kept}

-- ---- the largest word
pub stack_refuses_largest : (trucks : ℕ) (earlier : List ℕ) → trucks < 4294967295 → RefusesLargest (stack_line trucks earlier)
stack_refuses_largest trucks earlier h ns l e =
    ranges_below _ (stack_ranges trucks) ns (omega arith) l ((and_reads (all_within (stack_ranges trucks) ns) (not (listed (stack_number ns) earlier))).0 e).0

pub load_refuses_largest : (most items loaded : ℕ) → items < 4294967295 → RefusesLargest (load_line most items loaded)
load_refuses_largest most items loaded h ns l e =
    range_below _ 1 items ns h ((and_reads (all (between 1 items) ns) (leb (loaded + length ns) most)).0 e).0

-- ---- two tests, of which the second is made where the first holds
module _ {ok a : Bool} (b : Bool) where
  pub both_made : a ≡ true → ok ≡ b → ok ≡ (a && b)
  both_made h e = rw h e

  pub one_made : a ≡ false → ok ≡ a → ok ≡ (a && b)
  one_made h e = rw h (e ∙ h)

-- ---- a stack's row
-- the test as it is made on the words, where the row was lent and came back
pub row_fits : (part row : List ℕ) (trucks k size : ℕ) → 8 * k ≤ length part → length row ≡ size → 0 < size →
    let words = put_mid (8 * k) size part row in
    (all_within (stack_ranges trucks) (take size (drop (8 * k) words)) && not (listed (get_or words (8 * k) 0) (row_numbers k words)))
    ≡ (stack_line trucks (row_numbers k part)).fits row
row_fits part row trucks k size h l z =
    rw (
      put_spliced (8 * k) part row size l,
      spliced_there (8 * k) part row h size l,
      spliced_first (8 * k) part row h (omega arith),
      rows_kept k (8 * k) part row (omega arith) h,
    ) refl

-- ---- a load
-- the test as it is made on so many words, together with those loaded
pub load_fits : {in_range_lem ok : Bool} (load : List ℕ) (most items loaded count : ℕ) → count ≤ length load → in_range_lem ≡ all (between 1 items) (take count load)
    → ok ≡ (in_range_lem && leb (loaded + count) most) → ok ≡ (load_line most items loaded).fits (take count load)
load_fits load most items loaded count h first both =
    both ∙ ap (λ (b : Bool). b && leb (loaded + count) most) first ∙ rw (length-take-le count load h) refl

-- a line that is kept has the entries that were stored
pub kept_count : (r : StoredLine) (ok : Bool) {f : LineValue Cursor ℕ} → judged_entries_as r ok ≡ Ok f → f.value ≡ entries_of r
kept_count (Ok l) true {f} e = let same : record { value = l.count; next = l.next } ≡ f = cc in ap (λ (x : LineValue Cursor ℕ). x.value) (sym same)
kept_count (Ok l) false e = cc
kept_count (Err x) ok e = cc

-- so many of the words that were read, in the place of others
pub load_within : {load : List ℕ} {reader : Reader (List ℕ)} (n : ℕ) {p : Progress} {f : LineValue Cursor ℕ} (loads : List ℕ) (loaded : ℕ)
    → ReadEntries reader (padded n) p (Ok f) load
    → ReadEntries reader (λ l. spliced loaded l loads) p (Ok f) (spliced loaded (take f.value load) loads)
load_within {load = load} n {f = f} loads loaded i =
    let value = i.into.value in
    let stands : take f.value load ≡ value = ap (take f.value) (i.into.holds tt) ∙ take_at value _ f.value (sym i.count) in
    record {
      into = record { value = value; says = i.into.says; holds = λ g. ap (λ (l : List ℕ). spliced loaded l loads) stands; follows = i.into.follows };
      count = i.count;
    }
