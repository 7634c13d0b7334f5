-- The stacks of a used truck along the trailer: what the three tests of one stack have passed, and what they tell.
use mathlib.Core.Path.{◌≡◌, refl, sym, ap, ap₂, ◌∙◌}
use mathlib.Core.Logic.{◌↔◌, inr}
use mathlib.Core.Bool.{Bool, true, false}
use mathlib.Core.List.{List}
use Prim.Native.Nat.{ℕ, ◌+◌, ◌-◌, ◌≤◌, ◌<◌}
use native.Mathlib.Decide.{dec_le}
use native.Mathlib.Omega.{arith}
use borrow.Author.Tests.{le-leb, eqb-true, eq-eqb, ne_eqb}
use lib.Dec.{eqb}
use lib.ListN.{length}
use Rattle.meaning.specs.Lists.{any, up_from, In}
use Rattle.meaning.proofs.Tests.{true≢false, and_reads, or_reads, or_false, fails}
use Rattle.meaning.proofs.Lists.{any_reads, in_up_from}
use Rattle.views.specs.declared.Footprint.{Footprint}
use Rattle.manifest.specs.declared.Block.{Block}
use Rattle.manifest.specs.declared.row.Row.{Row}
use Rattle.manifest.specs.Manifest.{footprint_at}
use Rattle.pairrules.specs.PairRules.{disjoint_footprints, footprints_in_contact, disjoint_at, in_contact_at, in_order_at, Each, place_at}
use Rattle.pairrules.proofs.Places.{Upto, upto_kept, same_told}
use Rattle.pairrules.proofs.Sorted.{place_within, place_there, key_rising}
use Rattle.placement.specs.Placed.{RowsByX, braced_at}

module _ {rows : List Row} {on : Block} {along : List ℕ} (h : RowsByX rows on along) (k : ℕ) (inside : k < on.end - on.start) where
  -- there is a row at the k-th place
  pub nth_room : place_at on along k < length rows
  nth_room = omega (arith, place_within h.sorted k inside, h.truck.room)

  -- its place is a small number
  pub nth_few : place_at on along k < 16777216
  nth_few = omega (arith, place_within h.sorted k inside, h.truck.few)

  -- and is one of the places of the block
  pub nth_listed : In (place_at on along k) (up_from on.start (on.end - on.start))
  nth_listed = (in_up_from on.start (on.end - on.start) (place_at on along k)).1 (omega (arith, place_within h.sorted k inside))

  -- the ground of the k-th stack has an extent across the trailer
  nth_wide : {ground : Footprint} → ground ≡ footprint_at rows (place_at on along k) → ground.y ≤ ground.ye
  nth_wide e =
      let place = place_within h.sorted k inside in
      let wide = h.truck.wide (place_at on along k) place.0 place.1 in
      rw e (omega (arith, wide))

-- ---- 23: the stacks behind the k-th
-- it lies apart from those before the j-th
pub record ClearUpto (rows : List Row) (on : Block) (along : List ℕ) (k : ℕ) (ground : Footprint) (j : ℕ) : Type 0 where
  pub held : RowsByX rows on along
  pub is : ground ≡ footprint_at rows (place_at on along k)
  pub passed : Upto (λ l. disjoint_at rows (place_at on along k) (place_at on along l) ≡ true) (k + 1) (on.end - on.start) j

abbrev Clear : List Row → Block → List ℕ → ℕ → Type 0
Clear rows on along k = Each (λ l. disjoint_at rows (place_at on along k) (place_at on along l) ≡ true) (k + 1) (on.end - on.start)

module _ {rows : List Row} {on : Block} {along : List ℕ} {k : ℕ} {ground : Footprint} where
  module _ {j : ℕ} (h : ClearUpto rows on along k ground j) where
    module _ (up : j < on.end - on.start) {other : Footprint} (eo : other ≡ footprint_at rows (place_at on along j)) where
      -- the j-th begins where the k-th ends, or behind, and so do all further along
      pub clear_behind : ground.xe ≤ other.x → (true ≡ true) ↔ Clear rows on along k
      clear_behind ends = ((λ e l from less. go l from less (dec_le j l)), (λ each. refl))
        where
          begins : (footprint_at rows (place_at on along k)).xe ≤ (footprint_at rows (place_at on along j)).x
          begins = rw (h.is, eo) at ends

          go : (l : ℕ) → k + 1 ≤ l → l < on.end - on.start → Dec (j ≤ l) → disjoint_at rows (place_at on along k) (place_at on along l) ≡ true
          go l from less (yes q) =
              let further : (footprint_at rows (place_at on along k)).xe ≤ (footprint_at rows (place_at on along l)).x =
              omega (arith, begins, key_rising h.held.sorted j l q less)
              in
              rw (le-leb _ _ further) refl
          go l from less (no q) = h.passed.each l from (omega arith)

      module _ {kept : Bool} (asks : kept ≡ disjoint_footprints ground other) where
        clear_told : (kept ≡ true) ↔ (disjoint_at rows (place_at on along k) (place_at on along j) ≡ true)
        clear_told = same_told (asks ∙ ap₂ disjoint_footprints h.is eo)

-- ---- 24: the stacks before the k-th
-- none from the j-th on braces it, nor does the front wall
pub record NoBrace (rows : List Row) (on : Block) (along : List ℕ) (k : ℕ) (ground : Footprint) (j : ℕ) : Type 0 where
  pub held : RowsByX rows on along
  pub inside : k < on.end - on.start
  pub is : ground ≡ footprint_at rows (place_at on along k)
  pub behind : ground.x ≡ 0 → ⊥
  pub upto : j ≤ k
  pub each : Each (λ l. in_contact_at rows (place_at on along k) (place_at on along l) ≡ false) j k

pub at_front : (rows : List Row) (on : Block) (at : ℕ) {ground : Footprint} → ground ≡ footprint_at rows at → ground.x ≡ 0 → true ≡ braced_at rows on at
at_front rows on at e z = rw (eq-eqb (footprint_at rows at).x 0 (sym (ap (λ (g : Footprint). g.x) e) ∙ z)) refl

module _ {rows : List Row} {on : Block} {along : List ℕ} {k : ℕ} {ground : Footprint} {j : ℕ} (h : NoBrace rows on along k ground j) where
  abbrev touches : ℕ → Bool
  touches at = in_contact_at rows (place_at on along k) at

  abbrev others : List ℕ
  others = up_from on.start (on.end - on.start)

  abbrev front : Bool
  front = eqb (footprint_at rows (place_at on along k)).x 0

  pub both_wide : 0 < j → {other : Footprint} → other ≡ footprint_at rows (place_at on along (j - 1)) → (ground.y ≤ ground.ye) × (other.y ≤ other.ye)
  both_wide some eo = (nth_wide h.held k h.inside h.is, nth_wide h.held (j - 1) (omega (arith, h.upto, h.inside)) eo)

  module _ (some : 0 < j) {other : Footprint} (eo : other ≡ footprint_at rows (place_at on along (j - 1)))
      {touched : Bool} (asks : touched ≡ footprints_in_contact ground other) where
    asked : touched ≡ touches (place_at on along (j - 1))
    asked = asks ∙ ap₂ footprints_in_contact h.is eo

    pub brace_found : touched ≡ true → true ≡ braced_at rows on (place_at on along k)
    brace_found e =
        let there = nth_listed h.held (j - 1) (omega (arith, h.upto, h.inside)) in
        sym ((or_reads front (any touches others)).1 (inr ((any_reads touches others).1 (place_at on along (j - 1), there, sym asked ∙ e))))

  -- what stands at the k-th or behind has x no smaller, so it does not end where the k-th begins
  none_behind : (l : ℕ) → k ≤ l → l < on.end - on.start → touches (place_at on along l) ≡ true → ⊥
  none_behind l from less e =
      let place = place_within h.held.sorted l less in
      let ends = eqb-true (footprint_at rows (place_at on along l)).xe (footprint_at rows (place_at on along k)).x ((and_reads _ _).0 e).0 in
      omega (arith, ends, h.held.truck.long (place_at on along l) place.0 place.1, key_rising h.held.sorted k l from less)

  pub not_braced : j ≤ 0 → false ≡ braced_at rows on (place_at on along k)
  not_braced last =
      let wall : front ≡ false = ne_eqb (footprint_at rows (place_at on along k)).x 0 (λ q. h.behind (ap (λ (g : Footprint). g.x) h.is ∙ q)) in
      let alone : any touches others ≡ false = fails (any touches others) (λ e.
      let w = (any_reads touches others).0 e in
      let v = place_there h.held.sorted w.0 (omega (arith, (in_up_from on.start (on.end - on.start) w.0).0 w.1)) in
      none v.0 v.1 (sym (ap touches v.2) ∙ w.2) (dec_le k v.0))
      in
      sym ((or_false front (any touches others)).1 (wall, alone))
    where
      none : (l : ℕ) → l < on.end - on.start → touches (place_at on along l) ≡ true → Dec (k ≤ l) → ⊥
      none l less e (yes q) = none_behind l q less e
      none l less e (no q) = true≢false (sym e ∙ h.each l (omega arith) (omega arith))

-- ---- 25: the stacks before the k-th
-- it keeps the loading order with those before the j-th
pub record InOrderUpto (rows : List Row) (on : Block) (along : List ℕ) (k at j : ℕ) : Type 0 where
  pub held : RowsByX rows on along
  pub inside : k < on.end - on.start
  pub is : at ≡ place_at on along k
  pub passed : Upto (λ l. in_order_at rows (place_at on along k) (place_at on along l) ≡ true) 0 k j

module _ {rows : List Row} {on : Block} {along : List ℕ} {k at : ℕ} where
  module _ {j : ℕ} (h : InOrderUpto rows on along k at j) where
    module _ (up : j < k) {other : ℕ} (eo : other ≡ place_at on along j) where
      pub both_room : (at < length rows) × (other < length rows)
      both_room = (rw h.is (nth_room h.held k h.inside), rw eo (nth_room h.held j (omega (arith, h.inside))))

      module _ {kept : Bool} (asks : kept ≡ in_order_at rows at other) where
        in_order_told : (kept ≡ true) ↔ (in_order_at rows (place_at on along k) (place_at on along j) ≡ true)
        in_order_told = same_told (asks ∙ ap₂ (in_order_at rows) h.is eo)

        pub in_order_more : kept ≡ true → InOrderUpto rows on along k at (j + 1)
        in_order_more e = record { held = h.held; inside = h.inside; is = h.is; passed = upto_kept h.passed up in_order_told e }
