-- Code clashes as the code finds them: the first item of a code by going up, the lowest clash by going down.
use mathlib.Core.Path.{◌≡◌, refl, sym, ap, subst, ◌∙◌}
use mathlib.Core.Logic.{⊎_elim}
use mathlib.Core.Bool.{Bool, true, false, not}
use mathlib.Core.Option.{Option as Maybe, none, some}
use mathlib.Core.List.{List, [], ◌∷◌, ◌++◌, map, flat_map}
use Prim.Native.Nat.{ℕ, zero, suc, ◌+◌, ◌-◌, ◌*◌, ◌≤◌, ◌<◌}
use native.Mathlib.Nat.{zero-add}
use native.Mathlib.Omega.{arith}
use lib.ListN.{length, get_or, drop}
use Rattle.meaning.specs.declared.Place.{Place}
use Rattle.meaning.specs.Lists.{chunks, only_if, up_from, order_from, order_in, In}
use Rattle.meaning.specs.Model.{Instance, item, IS}
use Rattle.meaning.specs.Places.{place, lower, lower_of, lowest}
use Rattle.meaning.specs.Claims.{Before, IsLowest}
use Rattle.meaning.specs.Check.{first_of_code, same_length_and_width, code_clashes}
use Rattle.meaning.proofs.Lists.{at_in, in_flat_map, in_only_if, in_up_from}
use Rattle.meaning.proofs.Tests.{fails}
use Rattle.meaning.proofs.Orders.{one_back, order-in, order_most}
use Rattle.table.proofs.Parts.{length_chunks, chunk_at, length_made, made_at}
use Rattle.meaning.proofs.Lowest.{before_reads, lowest_is}
use Rattle.ranges.specs.Clashes.{item_at, items_in}
use Rattle.ranges.proofs.Scan.{order_found, order_passed}

-- ---- words and items
module _ (ws : List ℕ) (count : ℕ) where
  pub item_there : (n : ℕ) → 1 ≤ n → n ≤ count → item (items_in count ws) n ≡ item_at ws n
  item_there n least most = rw (zero-add (16 * (n - 1))) at (chunk_at 16 count (n - 1) 0 ws (omega arith))

  pub items_counted : length (items_in count ws).items ≡ count
  items_counted = length_chunks 16 count ws

  -- the codes, and how many they are
  abbrev pub codes : List ℕ
  codes = map IS (chunks 16 count ws)

  pub codes_counted : length codes ≡ count
  codes_counted = length_made IS 16 count ws

  pub code_there : (k : ℕ) → k < count → get_or codes k 0 ≡ IS (item_at ws (k + 1))
  code_there k h =
      let back : k + 1 - 1 ≡ k = omega arith in
      rw back (rw (zero-add (16 * k)) at (made_at IS 16 count k 0 ws 0 h))

  -- the first item of a code, from the next one on: that is this item, or it is behind it
  module _ (code k : ℕ) (h : k < count) where
    pub code_here : IS (item_at ws (k + 1)) ≡ code → order_from (k + 1) code (drop k codes) ≡ k + 1
    code_here e = order_found code codes k (omega (arith, codes_counted)) (code_there k h ∙ e)

    pub code_behind : (IS (item_at ws (k + 1)) ≡ code → ⊥) → order_from (k + 1) code (drop k codes) ≡ order_from (k + 1 + 1) code (drop (k + 1) codes)
    code_behind d = order_passed code codes k (omega (arith, codes_counted)) (λ e. d (sym (code_there k h) ∙ e))

-- ---- the lowest clash
-- the clash of item n with the first of its code, if they clash
unfoldable clash_of : Instance → ℕ → List Place
unfolding order_from
clash_of i n = only_if (not (same_length_and_width (item i n) (item i (first_of_code i n)))) (place n (first_of_code i n) 0)

-- the clashes of the items above n
unfoldable pub clashes_above : Instance → ℕ → List Place
unfolding flat_map up_from clash_of
clashes_above i n = flat_map (clash_of i) (up_from (suc n) (length i.items - n))

module _ (i : Instance) where
  -- all items are above 0, none is above the last
  all_above : clashes_above i 0 ≡ code_clashes i
  unfolding clashes_above clash_of code_clashes
  all_above = let all : length i.items - 0 ≡ length i.items = omega arith in rw all

  none_above : clashes_above i (length i.items) ≡ []
  unfolding clashes_above up_from flat_map
  none_above = let left : length i.items - length i.items ≡ 0 = omega arith in rw left

  -- the clash of item n comes before those above it
  one_more : (n : ℕ) → 1 ≤ n → n ≤ length i.items → clashes_above i (n - 1) ≡ clash_of i n ++ clashes_above i n
  unfolding clashes_above up_from flat_map
  one_more zero least most = absurd (omega arith)
  one_more (suc j) least most =
      let more : length i.items - j ≡ suc (length i.items - suc j) = omega arith in
      ap (clashes_above i) (one_back j) ∙ rw more

  clash_at : (n : ℕ) (q : Place) → In q (clash_of i n) → q.first ≡ n
  unfolding clash_of
  clash_at n q m =
      let first = first_of_code i n in
      ap (λ (z : Place). z.first) ((in_only_if (not (same_length_and_width (item i n) (item i first))) q (place n first 0)).0 m).1

  clash_above : (n : ℕ) (q : Place) → In q (clashes_above i n) → n < q.first
  unfolding clashes_above
  clash_above n q m =
      let rest = length i.items - n in
      let w = (in_flat_map (clash_of i) (up_from (suc n) rest) q).0 m in
      omega (arith, (in_up_from (suc n) rest w.0).0 w.1, clash_at w.0 q w.2)

-- a place whose first number is below that of all others is the lowest
lowest_first : (p : Place) (ps : List Place) → ((q : Place) → In q ps → p.first < q.first) → lowest (p ∷ ps) ≡ some p
unfolding lowest lower_of
lowest_first p ps below = go (lowest ps) (lowest_is ps)
  where
    over : (q : Place) → In q ps → Before q p → ⊥
    over q m = ⊎_elim (λ h. omega (arith, below q m)) (λ h. omega (arith, below q m, h.0))

    go : (o : Maybe Place) → IsLowest ps o → lower_of p o ≡ some p
    go none h = refl
    go (some q) h = rw (fails (lower q p) (λ e. over q h.0 ((before_reads q p).0 e)))

-- the clashes are those of the items above n
pub record NoneUpTo (ws : List ℕ) (count n : ℕ) : Type 0 where
  pub is : clashes_above (items_in count ws) n ≡ code_clashes (items_in count ws)

pub none_asked : (ws : List ℕ) (count : ℕ) → NoneUpTo ws count 0
none_asked ws count = record { is = all_above (items_in count ws) }

pub all_asked : {ws : List ℕ} {count n : ℕ} → NoneUpTo ws count n → n ≡ count → none ≡ lowest (code_clashes (items_in count ws))
unfolding lowest
all_asked {ws} {count} {n} h end =
    let none : clashes_above (items_in count ws) count ≡ [] = rw (items_counted ws count) at (none_above (items_in count ws)) in
    let clear : code_clashes (items_in count ws) ≡ [] = sym h.is ∙ ap (clashes_above (items_in count ws)) end ∙ none in
    rw clear

-- the next item, with the first item of its code and the test as the code found them
module _ {ws : List ℕ} {count n first : ℕ} (h : NoneUpTo ws count n) (more : n < count)
    (is-first : first ≡ order_in (codes ws count) (IS (item_at ws (n + 1)))) where
  -- the code is that of some item, so its first item has a number
  pub first_within : (1 ≤ first) × (first ≤ count)
  first_within =
      let there : get_or (codes ws count) n 0 ≡ IS (item_at ws (n + 1)) = code_there ws count n more in
      let stands = subst (λ (c : ℕ). In c (codes ws count)) there (at_in (codes ws count) 0 n (omega (arith, codes_counted ws count))) in
      rw is-first (
        (order-in (codes ws count) (IS (item_at ws (n + 1)))).1 stands,
        order_most count (codes ws count) (IS (item_at ws (n + 1))) (omega (arith, codes_counted ws count)),
      )

  -- whether it differs from that one is told by the test
  module _ {same : Bool} (test : same ≡ same_length_and_width (item_at ws (n + 1)) (item_at ws first)) where
    next : code_clashes (items_in count ws) ≡ only_if (not same) (place (n + 1) first 0) ++ clashes_above (items_in count ws) (n + 1)
    unfolding clash_of
    next =
        let item-n = item_there ws count (n + 1) (omega arith) (omega arith) in
        let item-first = item_there ws count first first_within.0 first_within.1 in
        let first-there : first ≡ first_of_code (items_in count ws) (n + 1) = is-first ∙ ap (order_in (codes ws count)) (ap IS (sym item-n)) in
        let back : n + 1 - 1 ≡ n = omega arith in
        sym h.is ∙ ap (clashes_above (items_in count ws)) (sym back)
        ∙ rw (test, ← item-n, ← item-first, first-there)
        (one_more (items_in count ws) (n + 1) (omega arith) (omega (arith, items_counted ws count)))

    pub clash_here : same ≡ false → some (place (n + 1) first 0) ≡ lowest (code_clashes (items_in count ws))
    clash_here d =
        sym (ap lowest (rw d at next) ∙ lowest_first (place (n + 1) first 0) (clashes_above (items_in count ws) (n + 1)) (clash_above (items_in count ws) (n + 1)))

    pub no_clash_here : same ≡ true → NoneUpTo ws count (n + 1)
    no_clash_here d = record { is = sym (rw d at next) }

-- the clashes of an instance are those of its items
pub clashes_of : (i : Instance) (count : ℕ) (ws : List ℕ) → i.items ≡ chunks 16 count ws → code_clashes (items_in count ws) ≡ code_clashes i
unfolding code_clashes
clashes_of i count ws e = rw e
