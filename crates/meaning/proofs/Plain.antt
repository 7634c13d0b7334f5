-- What every kind of line has, where its numbers meet its form: a key on one line, some entries, and numbers below an end. Reading back asks for
-- an end of ten digits, the length of a line for a lower one.
use mathlib.Core.Path.{refl}
use mathlib.Core.Bool.{not}
use mathlib.Core.List.{List}
use Prim.Native.Nat.{ℕ, ◌+◌, ◌≤◌, ◌<◌}
use Prim.Native.String.{String}
use native.Mathlib.Omega.{arith}
use lib.Dec.{leb}
use lib.ListN.{length}
use Rattle.meaning.specs.Lists.{Every, any, all, between, listed, distinct}
use Rattle.meaning.specs.Text.{Form, bytes}
use Rattle.meaning.specs.Model.{IL, IH, stack_number}
use Rattle.meaning.specs.Files.{Range, all_within, fields_line, identifiers_line, item_ranges, item_line, truck_ranges, truck_line, stack_ranges, stack_line, load_line}
use Rattle.meaning.specs.Reorder.{OneLine}
use Rattle.meaning.specs.Meets.{Meets}
use Rattle.meaning.proofs.Tests.{and_reads}
use Rattle.meaning.proofs.Fields.{item_within, ranges_below, range_below}

-- the key has no byte 10, and a line has entries, which are below the end
pub record Plain (end : ℕ) (f : Form) : Type 0 where
  pub one_line : OneLine (bytes f.key)
  pub entries : 1 ≤ f.least
  pub below : (ns : List ℕ) → Meets f ns → Every (λ n. n < end) ns

module _ (end : ℕ) where
  -- lines with a range for each entry
  pub plain_fields : (key : String) (rs : List Range) → OneLine (bytes key) → 1 ≤ length rs → Every (λ (r : Range). r.high < end) rs
      → Plain end (fields_line key rs)
  plain_fields key rs o l e = record { one_line = o; entries = l; below = λ ns h. ranges_below end rs ns e h.most h.fits }

  -- the items of a load are at most as many as there are
  pub plain_load : (most items loaded : ℕ) → items < end → Plain end (load_line most items loaded)
  unfolding any
  plain_load most items loaded e =
      record {
        one_line = refl;
        entries = omega arith;
        below = λ ns h. range_below end 1 items ns e ((and_reads (all (between 1 items) ns) (leb (loaded + length ns) most)).0 h.fits).0;
      }

  -- no range of document 01 goes beyond 1000000
  module _ (high : 1000000 < end) where
    pub plain_identifiers : (key : String) (most : ℕ) → OneLine (bytes key) → Plain end (identifiers_line key most)
    plain_identifiers key most o =
        record {
          one_line = o;
          entries = omega arith;
          below = λ ns h. range_below end 1 65535 ns (omega (arith, high)) ((and_reads (all (between 1 65535) ns) (distinct ns)).0 h.fits).0;
        }

    -- an item's width ends at its length, and its nesting height below its height: these two are in range themselves
    pub plain_item : Plain end item_line
    unfolding any
    plain_item = record { one_line = refl; entries = omega arith; below = each }
      where
        each : (a : List ℕ) → Meets item_line a → Every (λ n. n < end) a
        each a h =
            let long : IL a ≤ 20000 = (item_within a h 0 (omega arith)).1 in
            let tall : IH a ≤ 20000 = (item_within a h 2 (omega arith)).1 in
            ranges_below end (item_ranges a) a (omega (arith, high)) h.most h.fits

    pub plain_truck : Plain end truck_line
    unfolding any
    plain_truck = plain_fields "truck=" truck_ranges refl (omega arith) (omega (arith, high))

    -- a stack's truck is at most as many as there are
    pub plain_stack : (trucks : ℕ) (earlier : List ℕ) → trucks < end → Plain end (stack_line trucks earlier)
    unfolding any
    plain_stack trucks earlier e =
        record {
          one_line = refl;
          entries = omega arith;
          below =
              λ ns h.
              ranges_below end (stack_ranges trucks) ns (omega (arith, high)) h.most
              ((and_reads (all_within (stack_ranges trucks) ns) (not (listed (stack_number ns) earlier))).0 h.fits).0;
        }
