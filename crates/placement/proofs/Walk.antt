-- The walk over the stacks of a used truck, from the last along the trailer to the first, and what it tells in the end.
use mathlib.Core.Path.{◌≡◌, refl, sym, ap, subst, ◌∙◌}
use mathlib.Core.Logic.{◌↔◌, ⊎_elim}
use mathlib.Core.Bool.{Bool, true, false, not}
use mathlib.Core.List.{List, flat_map}
use Prim.Native.Nat.{ℕ, ◌+◌, ◌-◌, ◌≤◌, ◌<◌}
use native.Mathlib.Nat.{eq-or-lt_of_le}
use native.Mathlib.Decide.{dec_le}
use native.Mathlib.Omega.{arith}
use lib.ListN.{take, length-take}
use lib.Seq.{get_or-take}
use Rattle.std.specs.Prelude.{Option, None}
use Rattle.meaning.specs.declared.Place.{Place}
use Rattle.meaning.specs.Lists.{In, only_if, up_from}
use Rattle.meaning.specs.Places.{place}
use Rattle.meaning.proofs.Tests.{true≢false, iff_trans}
use Rattle.meaning.proofs.Lists.{in_flat_map, in_up_from}
use Rattle.search.specs.Lowest.{lowest_in, place_cmp, lower_by}
use Rattle.search.proofs.Lowest.{lowest_members, LowestFrom, from_start, from_more, from_end}
use Rattle.manifest.specs.declared.Block.{Block}
use Rattle.manifest.specs.declared.row.Row.{Row}
use Rattle.manifest.specs.Manifest.{row_at, footprint_at, rank_at}
use Rattle.pairrules.specs.PairRules.{ranks_before, disjoint_at, in_order_at, Inside, Each, EachTwo, place_at}
use Rattle.pairrules.proofs.Places.{behind_enough}
use Rattle.pairrules.proofs.Sorted.{place_within, place_there, place_once, order-in, key_rising}
use Rattle.pairrules.proofs.Ranks.{in_front}
use Rattle.pairrules.proofs.Pairs.{footprints_turned}
use Rattle.placement.specs.Placed.{RowsByX, braced_at, unbraced_places, PlacedRows}

-- ---- a yes or no that is kept downwards
-- `told` says whether P holds of each place from k up to `count`
pub record AllFrom (P : ℕ → Type 0) (count k : ℕ) (told : Bool) : Type 0 where
  pub upto : k ≤ count
  pub is : (told ≡ true) ↔ Each P k count

module _ {P : ℕ → Type 0} {count : ℕ} where
  pub all_start : AllFrom P count count true
  all_start = record { upto = omega arith; is = ((λ e j from less. absurd (omega arith)), (λ each. refl)) }

  -- the place before is asked, unless the answer is no already
  pub all_more : {k : ℕ} {told here : Bool} → AllFrom P count k told → 0 < k → told ≡ true → (here ≡ true) ↔ P (k - 1) → AllFrom P count (k - 1) here
  all_more {k} h some e asks =
      record {
        upto = omega (arith, h.upto);
        is = (
          (λ q j from less. ⊎_elim (λ z. subst P z (asks.0 q)) (λ z. h.is.0 e j (omega arith) less) (eq-or-lt_of_le from)),
          (λ each. asks.1 (each (k - 1) (omega arith) (omega (arith, h.upto)))),
        );
      }

  pub all_no : {k : ℕ} {told : Bool} → AllFrom P count k told → told ≡ false → AllFrom P count (k - 1) told
  all_no h e = record {
    upto = omega (arith, h.upto);
    is = ((λ q. absurd (true≢false (sym q ∙ e))), (λ each. h.is.1 (λ j from less. each j (omega arith) less)));
  }

  pub all_end : {k : ℕ} {told : Bool} → AllFrom P count k told → k ≤ 0 → (told ≡ true) ↔ Each P 0 count
  all_end h last = iff_trans h.is ((λ each j from less. each j (omega arith) less), (λ each j from less. each j (omega arith) less))

-- ---- along the trailer
-- the place that the stack at place j of the block gives to 24
abbrev unbraced_at : List Row → Block → ℕ → List Place
unbraced_at rows on j = only_if (not (braced_at rows on (on.start + j))) (place (row_at rows (on.start + j)).number 0 0)

module _ {rows : List Row} {on : Block} {along : List ℕ} (h : RowsByX rows on along) where
  abbrev count : ℕ
  count = on.end - on.start

  abbrev nth : ℕ → ℕ
  nth k = place_at on along k

  -- each two along it are each two of the truck
  along_two : (P : ℕ → ℕ → Type 0) → EachTwo (λ j k. P (nth j) (nth k)) 0 count ↔ EachTwo P on.start on.end
  along_two P = (
    (λ two a b insideA insideB differ.
        let j = place_there h.sorted a insideA in
        let k = place_there h.sorted b insideB in
        subst (λ c. P c b) (sym j.2)
        (subst (P (nth j.0)) (sym k.2) (two j.0 k.0 (omega arith, j.1) (omega arith, k.1) (λ e. differ (j.2 ∙ ap nth e ∙ sym k.2))))),
    (λ two j k a b differ. two (nth j) (nth k) (place_within h.sorted j a.1) (place_within h.sorted k b.1) (once j k a b differ (dec_le j k))),
  )
    where
      once : (j k : ℕ) → Inside 0 count j → Inside 0 count k → (j ≡ k → ⊥) → Dec (j ≤ k) → nth j ≡ nth k → ⊥
      once j k a b differ (yes q) e = ⊎_elim differ (λ less. place_once h.sorted j k less b.1 e) (eq-or-lt_of_le q)
      once j k a b differ (no q) e = place_once h.sorted k j (omega arith) a.1 (sym e)

  -- 23 is the same in both orders
  apart_two : Each (λ k. Each (λ j. disjoint_at rows (nth k) (nth j) ≡ true) (k + 1) count) 0 count
      ↔ EachTwo (λ j k. disjoint_at rows j k ≡ true) on.start on.end
  apart_two = iff_trans (behind_enough (λ j k e. footprints_turned (footprint_at rows (nth k)) (footprint_at rows (nth j)) ∙ e)) (along_two (λ j k. disjoint_at rows j k ≡ true))

  -- 25 is kept with those behind anyway
  pub ordered_two : Each (λ k. Each (λ j. in_order_at rows (nth k) (nth j) ≡ true) 0 k) 0 count
      ↔ EachTwo (λ j k. in_order_at rows j k ≡ true) on.start on.end
  ordered_two =
      iff_trans (
        (λ before j k a b differ. go before j k a b (dec_le j k)),
        (λ two k from less j from' before. two k j (from, less) (from', omega arith) (λ e. omega arith)),
      ) (along_two (λ j k. in_order_at rows j k ≡ true))
    where
      go : Each (λ k. Each (λ j. in_order_at rows (nth k) (nth j) ≡ true) 0 k) 0 count → (j k : ℕ) → Inside 0 count j → Inside 0 count k → Dec (j ≤ k)
          → in_order_at rows (nth j) (nth k) ≡ true
      go before j k a b (yes q) = sym (in_front (not (ranks_before (rank_at rows (nth j)) (rank_at rows (nth k)))) (footprint_at rows (nth j)).x (footprint_at rows (nth k)).x (key_rising h.sorted j k q b.1))
      go before j k a b (no q) = before j a.0 a.1 k (omega arith) (omega arith)

  -- ---- 24: the places along the trailer are those of the truck
  unbraced_all : lowest_in (flat_map (unbraced_at rows on) (take count along)) ≡ lowest_in (unbraced_places rows on)
  unbraced_all = lowest_members _ _ (
    (λ q m.
        let w = (in_flat_map (unbraced_at rows on) (take count along) q).0 m in
        let less = (order-in h.sorted w.0).0 w.1 in
        (in_flat_map _ (up_from on.start count) q).1 (on.start + w.0, (in_up_from on.start count _).1 (omega arith), w.2)),
    (λ q m.
        let w = (in_flat_map _ (up_from on.start count) q).0 m in
        let v = (in_up_from on.start count w.0).0 w.1 in
        let e : w.0 ≡ on.start + (w.0 - on.start) = omega (arith, v) in
        (in_flat_map (unbraced_at rows on) (take count along) q).1 (
          w.0 - on.start,
          (order-in h.sorted _).1 (omega (arith, v)),
          subst (λ k. In q (only_if (not (braced_at rows on k)) (place (row_at rows k).number 0 0))) e w.2,
        )),
  )

-- ---- the walk
-- the stacks from the k-th on: whether each is clear of those behind it, and the lowest unbraced one
pub record PlacedFrom (rows : List Row) (on : Block) (along : List ℕ) (k : ℕ) (apart : Bool) (unbraced : Option Place) : Type 0 where
  pub held : RowsByX rows on along
  pub clear : AllFrom (λ l. Each (λ j. disjoint_at rows (place_at on along l) (place_at on along j) ≡ true) (l + 1) (on.end - on.start))
      (on.end - on.start) k apart
  pub lowest : LowestFrom (unbraced_at rows on) (take (on.end - on.start) along) k unbraced

module _ {rows : List Row} {on : Block} {along : List ℕ} where
  pub placed_start : RowsByX rows on along → PlacedFrom rows on along (on.end - on.start) true None
  placed_start h =
      record { held = h; clear = all_start; lowest = from_start (omega (arith, length-take (on.end - on.start) along, h.sorted.room)) }

  module _ {k : ℕ} {apart : Bool} {unbraced : Option Place} (placed : PlacedFrom rows on along k apart unbraced) where
    pub next_inside : 0 < k → k - 1 < on.end - on.start
    next_inside some = omega (arith, placed.clear.upto)

    -- the next one: whether it is braced, and where no two overlap so far, whether it is clear
    module _ (some : 0 < k) {at number : ℕ} {braced : Bool} {here r : Option Place} (ea : at ≡ place_at on along (k - 1)) (en : number ≡ (row_at rows at).number)
        (eb : braced ≡ braced_at rows on (place_at on along (k - 1))) (eh : here ≡ lowest_in (only_if (not braced) (place number 0 0)))
        (er : r ≡ lower_by place_cmp here unbraced) where
      lowest_more : LowestFrom (unbraced_at rows on) (take (on.end - on.start) along) (k - 1) r
      lowest_more =
          from_more 0 placed.lowest some (sym (get_or-take (on.end - on.start) along (k - 1) 0 (next_inside some))) (eh ∙ rw (en, ea, eb) refl) er

      pub clear_asked : {clear : Bool} → apart ≡ true
          → (clear ≡ true) ↔ Each (λ j. disjoint_at rows (place_at on along (k - 1)) (place_at on along j) ≡ true) (k - 1 + 1) (on.end - on.start)
          → PlacedFrom rows on along (k - 1) clear r
      clear_asked e asks = record { held = placed.held; clear = all_more placed.clear some e asks; lowest = lowest_more }

      pub overlap_known : apart ≡ false → PlacedFrom rows on along (k - 1) apart r
      overlap_known e = record { held = placed.held; clear = all_no placed.clear e; lowest = lowest_more }

    module _ (last : k ≤ 0) where
      apart_told : (apart ≡ true) ↔ EachTwo (λ j k. disjoint_at rows j k ≡ true) on.start on.end
      apart_told = iff_trans (all_end placed.clear last) (apart_two placed.held)

      unbraced_told : unbraced ≡ lowest_in (unbraced_places rows on)
      unbraced_told = from_end placed.lowest last ∙ unbraced_all placed.held

      -- the order is asked where no two overlap
      pub placed_apart : {ordered : Bool} → apart ≡ true → (ordered ≡ true) ↔ EachTwo (λ j k. in_order_at rows j k ≡ true) on.start on.end
          → PlacedRows rows on (record { apart = apart; in_order = ordered; unbraced = unbraced })
      placed_apart e asks =
          record { apart = apart_told; ordered = λ q. asks; unordered = λ q. absurd (true≢false (sym e ∙ q)); unbraced = unbraced_told }

      pub placed_overlap : apart ≡ false → PlacedRows rows on (record { apart = apart; in_order = apart; unbraced = unbraced })
      placed_overlap e =
          record { apart = apart_told; ordered = λ q. absurd (true≢false (sym q ∙ e)); unordered = λ q. q; unbraced = unbraced_told }
