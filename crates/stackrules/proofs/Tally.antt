-- Counting how often the stacks load each item, from the last stack to the first.
use mathlib.Core.Path.{◌≡◌, refl, sym, ap, ◌∙◌}
use mathlib.Core.Bool.{Bool, true, false, cond, not}
use mathlib.Core.List.{List, ◌∷◌, flat_map}
use Prim.Native.Nat.{ℕ, ◌+◌, ◌-◌, ◌≤◌, ◌<◌}
use native.Mathlib.Omega.{arith}
use borrow.Author.Tests.{eq-eqb, eqb-true, eqb-false}
use lib.Dec.{eqb}
use lib.ListN.{length, get_or, drop, set, replicate, length-drop, length-set, length-replicate, get_or-replicate}
use lib.Seq.{drop-length, get_or-set_same, get_or-set_other}
use Rattle.std.specs.Prelude.{Option, None}
use Rattle.meaning.specs.declared.Limits.{Limits}
use Rattle.meaning.specs.declared.Place.{Place}
use Rattle.meaning.specs.Lists.{filter, sum, only_if, up_from}
use Rattle.meaning.specs.Places.{place}
use Rattle.meaning.specs.Model.{Instance, Stack}
use Rattle.meaning.specs.Rules.{times_loaded, not_once}
use Rattle.meaning.specs.Table.{load_entries, instance_in, stacks_in}
use Rattle.meaning.proofs.Lists.{drop_next, flat_map_agree, in_up_from, length_up_from, up_from_at}
use Rattle.meaning.proofs.Sums.{sum_below, sum_drop, filter_most}
use Rattle.table.specs.Filled.{Filled, LoadOfItems, no_stack, stack_at}
use Rattle.table.proofs.Access.{entries_length, few_entries_lem}
use Rattle.search.specs.Lowest.{lowest_in, place_cmp, lower_by}
use Rattle.search.proofs.Lowest.{LowestFrom, from_start, from_more, from_end}
use Rattle.stackrules.specs.StackRules.{Countable, Counted, Tally}

-- ---- no count is above the number of load entries
times_most : (n : ℕ) (p : List Stack) → times_loaded p n ≤ length (load_entries p)
unfolding times_loaded
times_most n p =
    rw (entries_length p)
    (sum_below (λ (s : Stack). length (filter (eqb n) s.load)) (λ (s : Stack). length s.load) p (λ s m. filter_most (eqb n) s.load))

entries_most : (k : ℕ) (p : List Stack) → length (load_entries (drop k p)) ≤ length (load_entries p)
entries_most k p = rw (entries_length p, entries_length (drop k p)) (sum_drop (λ (s : Stack). length s.load) k p)

-- ---- one entry more, n at the place of its count, and the count of k
count_more : (k n at all : ℕ) (l times : List ℕ) → at < length times → at + 1 ≡ n → 1 ≤ k
    → get_or times (k - 1) 0 + length (filter (eqb k) (n ∷ l)) ≡ all
    → get_or (set times at (get_or times at 0 + 1)) (k - 1) 0 + length (filter (eqb k) l) ≡ all
unfolding filter
count_more k n at all l times inside place from = go (eqb k n) refl
  where
    go : (t : Bool) → eqb k n ≡ t → get_or times (k - 1) 0 + length (cond t (n ∷ filter (eqb k) l) (filter (eqb k) l)) ≡ all
        → get_or (set times at (get_or times at 0 + 1)) (k - 1) 0 + length (filter (eqb k) l) ≡ all
    go true e is =
        let same : k - 1 ≡ at = omega (arith, eqb-true k n e) in
        rw (same, get_or-set_same times at (get_or times at 0 + 1) 0 inside) (omega (arith, rw same at is))
    go false e is =
        let other : k - 1 ≡ at → ⊥ = λ z. eqb-false k n e (omega arith) in
        rw (get_or-set_other times at (k - 1) (get_or times at 0 + 1) 0 other) is

-- ---- one load, entry by entry
-- the entries before j are counted: with those that are left the counts come to what the whole load brings
pub record Counting (load before : List ℕ) (j : ℕ) (times : List ℕ) : Type 0 where
  pub room : length times ≡ length before
  pub counts : (n : ℕ) → 1 ≤ n → n ≤ length before
      → get_or times (n - 1) 0 + length (filter (eqb n) (drop j load)) ≡ length (filter (eqb n) load) + get_or before (n - 1) 0

module _ {load before : List ℕ} where
  module _ {j : ℕ} {times : List ℕ} (able : Countable load before) (h : Counting load before j times) (more : j < length load) where
    abbrev n : ℕ
    n = get_or load j 0

    split : drop j load ≡ n ∷ drop (j + 1) load
    split = drop_next load j 0 more

    module _ (at : ℕ) (place : at + 1 ≡ n) where
      pub count_inside : at < length times
      count_inside = omega (arith, able.entries j more, h.room)

      pub count_few : get_or times at 0 + 1 ≤ 4294967295
      unfolding filter
      count_few =
          let same : n - 1 ≡ at = omega arith in
          let entry = able.entries j more in
          omega (
            arith,
            rw same at (h.counts n entry.0 entry.1),
            counted _ _ split,
            rw same at (able.few j more),
            filter_most (eqb n) load,
          )
        where
          counted : (l rest : List ℕ) → l ≡ n ∷ rest → 1 ≤ length (filter (eqb n) l)
          counted l rest e = rw e (rw (eq-eqb n n refl) (omega arith))

      pub counting_more : Counting load before (j + 1) (set times at (get_or times at 0 + 1))
      counting_more = record {
        room = length-set times at (get_or times at 0 + 1) ∙ h.room;
        counts = λ k from up_to. count_more k n at _ (drop (j + 1) load) times count_inside place from (rw (← split) (h.counts k from up_to));
      }

  pub counting_all : {j : ℕ} {times : List ℕ} → Counting load before j times → length load ≤ j → Counted load before times
  counting_all {j} h end = record {
    counts = λ n from up_to.
        let none : length (drop j load) ≡ 0 = omega (arith, length-drop j load) in
        omega (arith, h.counts n from up_to, filter_most (eqb n) (drop j load), none);
  }

-- ---- the loads of the stacks, from the last to the first
module _ {items : ℕ} where
  pub tally_none : {times : List ℕ} {size s : ℕ} (p : List Stack) → items ≤ size → times ≡ replicate size 0 → s ≡ length p → Tally items (drop s p) times
  unfolding times_loaded sum
  tally_none {times} {size} p h e el =
      let room : items ≤ length times = rw e (simp length-replicate h) in
      rw (el, drop-length p) record { room = room; counts = λ n from up_to. rw e (get_or-replicate size (n - 1) 0 0 (omega arith)) }

  -- one stack more
  pub tally_more : {s : ℕ} (p : List Stack) {load before after : List ℕ} → s < length p → Tally items (drop (s + 1) p) before → length after ≡ length before
      → load ≡ (stack_at p s).load → Counted load before after → Tally items (drop s p) after
  unfolding times_loaded sum
  tally_more {s} p k h same e counted =
      rw (drop_next p s no_stack k) record {
        room = omega (arith, h.room);
        counts = λ n from up_to. rw (← e, ← h.counts n from up_to) (counted.counts n from (omega (arith, h.room)));
      }

-- in a filled table there are at most 65,536 load entries, so no count is higher
pub countable : {m : Limits} {t times load : List ℕ} (s : ℕ) → Filled m t → LoadOfItems (instance_in m t) load
    → Tally (length (instance_in m t).items) (drop s (stacks_in m t)) times → Countable load times
countable {m} {t} {times} {load} s h range tally = record {
  entries = λ j inside. let n = range.entries j inside in (n.0, omega (arith, n.1, tally.room));
  few = λ j inside.
      let n = range.entries j inside in
      let later = drop s (stacks_in m t) in
      omega (arith, tally.counts _ n.0 n.1, times_most (get_or load j 0) later, entries_most s (stacks_in m t), few_entries_lem h, range.few);
}

-- ---- the lowest item that is not loaded once
-- the place of item n, by the word of its count
unfoldable count_place : List ℕ → ℕ → List Place
count_place times n = only_if (not (eqb (get_or times (n - 1) 0) 1)) (place n (get_or times (n - 1) 0) 0)

-- `found` is the lowest place of the items above n
pub record FoundAbove (times : List ℕ) (most n : ℕ) (found : Option Place) : Type 0 where
  pub upto : n ≤ most
  down : LowestFrom (count_place times) (up_from 1 most) n found

module _ {times : List ℕ} {most : ℕ} where
  pub above_none : FoundAbove times most most None
  above_none = record { upto = omega arith; down = from_start (sym (length_up_from 1 most)) }

  module _ {n : ℕ} {found : Option Place} where
    pub above_more : {f r : Option Place} → FoundAbove times most n found → 0 < n
        → f ≡ lowest_in (only_if (not (eqb (get_or times (n - 1) 0) 1)) (place (n - 1 + 1) (get_or times (n - 1) 0) 0)) → r ≡ lower_by place_cmp f found
        → FoundAbove times most (n - 1) r
    unfolding count_place
    above_more {f} h k ef er =
        let back : n - 1 + 1 ≡ n = omega arith in
        let number : n ≡ get_or (up_from 1 most) (n - 1) 0 = omega (arith, up_from_at 1 most (n - 1) 0 (omega (arith, h.upto))) in
        let here : f ≡ lowest_in (count_place times n) = rw back at ef in
        record { upto = omega (arith, h.upto); down = from_more 0 h.down k number here er }

    pub above_end : (i : Instance) (p : List Stack) → FoundAbove times most n found → n ≤ 0 → most ≡ length i.items → Tally (length i.items) p times
        → found ≡ lowest_in (not_once i p)
    unfolding not_once count_place
    above_end i p h k e tally =
        let is : found ≡ lowest_in (flat_map (count_place times) (up_from 1 (length i.items))) = rw e at (from_end h.down k) in
        let same : flat_map (count_place times) (up_from 1 (length i.items)) ≡ not_once i p =
        flat_map_agree _ _ (up_from 1 (length i.items)) (λ n m.
        let inside = (in_up_from 1 (length i.items) n).0 m in
        rw (tally.counts n inside.0 (omega (arith, inside.1))) refl)
        in
        is ∙ ap lowest_in same
