-- The places of a block by a key of their rows: they are those of the block, each is there, and the key does not fall.
use mathlib.Core.Path.{◌≡◌, sym, ap, subst, ◌∙◌}
use mathlib.Core.Logic.{◌↔◌, ⊎_elim}
use mathlib.Core.List.{List}
use Prim.Native.Nat.{ℕ, zero, suc, ◌+◌, ◌-◌, ◌≤◌, ◌<◌}
use native.Mathlib.Nat.{eq-or-lt_of_le}
use native.Mathlib.Omega.{arith}
use lib.ListN.{length, get_or, take, set}
use lib.ListN.{length-set}
use lib.Seq.{get_or-take, get_or-set_same, get_or-set_other}
use Rattle.meaning.specs.Lists.{up_from, In}
use Rattle.meaning.proofs.Tests.{iff_trans}
use Rattle.meaning.proofs.Lists.{NoRepeat, at_in, in_at, in_up_from, length_up_from}
use Rattle.meaning.proofs.Permute.{no_repeat_perm}
use Rattle.manifest.specs.declared.Block.{Block}
use Rattle.manifest.specs.declared.row.Row.{Row}
use Rattle.manifest.specs.Manifest.{sort_by, row_at}
use Rattle.manifest.proofs.Order.{sort_perm, sort_length, sort_in, sort_rising, sort_agree}
use Rattle.manifest.proofs.UsedTrucks.{no_repeat_at}
use Rattle.pairrules.specs.PairRules.{Inside, Tells, SortedRows, place_at}

-- ---- the keys
-- those of the places before the k-th are written, by whatever key the answers by a row are
pub record Written (answers : Row → ℕ → Type 0) (rows : List Row) (on : Block) (keys : List ℕ) (k : ℕ) : Type 0 where
  pub few : k ≤ on.end - on.start
  pub room : on.end - on.start ≤ length keys
  pub each : (key : Row → ℕ) → Tells answers key → (j : ℕ) → j < k → get_or keys j 0 ≡ key (row_at rows (on.start + j))

module _ {answers : Row → ℕ → Type 0} {rows : List Row} {on : Block} {keys : List ℕ} where
  pub written_none : on.end - on.start ≤ length keys → Written answers rows on keys 0
  written_none room = record { few = omega arith; room = room; each = λ key tells j less. absurd (omega arith) }

  module _ {k : ℕ} (h : Written answers rows on keys k) where
    -- one more of them is written
    pub written_more : k < on.end - on.start → (v : ℕ) → answers (row_at rows (on.start + k)) v → Written answers rows on (set keys k v) (k + 1)
    written_more inside v told =
        let room = h.room in
        record {
          few = omega arith;
          room = simp length-set room;
          each = λ key tells j less.
              ⊎_elim (λ e. rw e (get_or-set_same keys k v 0 (omega arith) ∙ tells _ v told))
              (λ before. get_or-set_other keys k j v 0 (λ e. omega arith) ∙ h.each key tells j before)
              (eq-or-lt_of_le (omega arith));
        }

    -- sorting by them sorts by the key
    pub sorted_by : {order : List ℕ} → on.end - on.start ≤ k → on.end - on.start ≤ length order
        → take (on.end - on.start) order ≡ sort_by (λ j. get_or (take (on.end - on.start) keys) j 0) (up_from 0 (on.end - on.start))
        → (key : Row → ℕ) → Tells answers key → SortedRows rows on key order
    sorted_by last room by-keys key tells =
        let count = on.end - on.start in
        record {
          room = room;
          is = by-keys ∙ sort_agree (λ j. get_or (take count keys) j 0) (λ j. key (row_at rows (on.start + j))) (up_from 0 count)
              (λ j there.
              let few : j < count = omega (arith, ((in_up_from 0 count j).0 there).1) in
              get_or-take count keys j 0 few ∙ h.each key tells j (omega arith));
        }

-- ---- the order
counted_once : (a n : ℕ) → NoRepeat (up_from a n)
unfolding up_from
counted_once a zero = tt
counted_once a (suc n) = ((λ m. omega (arith, (in_up_from (suc a) n a).0 m)), counted_once (suc a) n)

module _ {rows : List Row} {on : Block} {key : Row → ℕ} {order : List ℕ} (h : SortedRows rows on key order) where
  abbrev count : ℕ
  count = on.end - on.start

  abbrev by : ℕ → ℕ
  by k = key (row_at rows (on.start + k))

  abbrev sorted : List ℕ
  sorted = sort_by by (up_from 0 count)

  sorted_length : length sorted ≡ count
  sorted_length = sort_length by (up_from 0 count) ∙ length_up_from 0 count

  at_sorted : (k : ℕ) → k < count → get_or order k 0 ≡ get_or sorted k 0
  at_sorted k inside = sym (get_or-take _ _ _ _ inside) ∙ ap (λ (l : List ℕ). get_or l k 0) h.is

  -- a place of the block
  pub place_within : (k : ℕ) → k < count → Inside on.start on.end (place_at on order k)
  place_within k inside =
      let there = at_in sorted 0 k (rw sorted_length inside) in
      let few = (in_up_from 0 count _).0 ((sort_in by (up_from 0 count) _).0 there) in
      (omega arith, omega (arith, at_sorted k inside, few))

  -- each place of the block is there
  pub place_there : (q : ℕ) → Inside on.start on.end q → (k : ℕ) × (k < count) × (q ≡ place_at on order k)
  place_there q inside =
      let there = (sort_in by (up_from 0 count) (q - on.start)).1 ((in_up_from 0 count (q - on.start)).1 (omega arith)) in
      let w = in_at 0 sorted (q - on.start) there in
      let few : w.0 < count = omega (arith, sorted_length, w.1) in
      (w.0, few, omega (arith, at_sorted w.0 few, w.2))

  -- once
  pub place_once : (j k : ℕ) → j < k → k < count → place_at on order j ≡ place_at on order k → ⊥
  place_once j k less inside e =
      no_repeat_at 0 sorted (no_repeat_perm (sort_perm by (up_from 0 count)) (counted_once 0 count)) j k less (rw sorted_length inside)
      (omega (arith, e, at_sorted j (omega arith), at_sorted k inside))

  -- the numbers of these places, counted from the block's start
  pub order-in : (j : ℕ) → In j (take count order) ↔ (j < count)
  order-in j =
      iff_trans (subst (λ (l : List ℕ). In j (take count order) ↔ In j l) h.is ((λ m. m), (λ m. m)))
      (iff_trans (sort_in by (up_from 0 count) j) ((λ m. omega (arith, (in_up_from 0 count j).0 m)), (λ less. (in_up_from 0 count j).1 (omega arith))))

  -- and the key does not fall
  pub key_rising : (j k : ℕ) → j ≤ k → k < count → key (row_at rows (place_at on order j)) ≤ key (row_at rows (place_at on order k))
  key_rising j k upto inside =
      rw (at_sorted j (omega arith), at_sorted k inside) (sort_rising by (up_from 0 count) j k upto (omega (arith, length_up_from 0 count)))
