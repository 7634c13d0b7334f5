-- Rows of one width, and the head: the tests of their words pass exactly where they are the words of what meets its lines.
use mathlib.Core.Path.{◌≡◌, refl, sym, ap, ap₂, ◌∙◌}
use mathlib.Core.Bool.{Bool, true}
use mathlib.Core.Logic.{◌↔◌}
use mathlib.Core.List.{List, [], ◌∷◌, ◌++◌, map, flat_map, map-id}
use Prim.Native.Nat.{ℕ, zero, suc, ◌+◌, ◌-◌, ◌*◌, ◌≤◌, ◌<◌}
use native.Mathlib.Nat.{mul-zero}
use native.Mathlib.Omega.{arith}
use lib.ListN.{length, get_or, take, drop, replicate, length-take, length-drop}
use lib.Seq.{take-add}
use Rattle.meaning.specs.declared.Limits.{Limits}
use Rattle.meaning.specs.Lists.{Every, all, between, chunks, padded, up_from}
use Rattle.meaning.specs.Model.{Item}
use Rattle.meaning.specs.Files.{item_line}
use Rattle.meaning.specs.Meets.{Meets}
use Rattle.meaning.proofs.Tests.{and_reads, between_reads}
use Rattle.meaning.proofs.Lists.{all_reads, every_map, in_up_from, map_up_from}
use Rattle.meaning.proofs.Decode.{chunks_flat_map, length_flat_map}
use Rattle.ranges.specs.Ranges.{head_range}
use Rattle.stored.specs.Parts.{zeros, rows_stored, head_stored, item_stored}
use Rattle.stored.proofs.Packed.{packed, unpacked}

-- ---- rows
module _ {A : Type 0} (w : ℕ) (test : List ℕ → Bool) (of : List ℕ → A) (words : A → List ℕ) (P : A → Type 0) where
  -- the words that pass are those of what they hold
  abbrev Holds : Type 0
  Holds = (ws : List ℕ) → length ws ≡ w → test ws ≡ true → P (of ws) × (words (of ws) ≡ ws)

  chunks_up : Holds → (n : ℕ) (ws : List ℕ) → w * n ≤ length ws → all test (chunks w n ws) ≡ true
      → Every P (map of (chunks w n ws)) × (flat_map words (map of (chunks w n ws)) ≡ take (w * n) ws)
  unfolding all chunks flat_map
  chunks_up holds zero ws room e = (tt, sym (ap (λ (k : ℕ). take k ws) (mul-zero w)))
  chunks_up holds (suc n) ws room e =
      let size : w * suc n ≡ w + w * n = omega arith in
      let h = (and_reads (test (take w ws)) (all test (chunks w n (drop w ws)))).0 e in
      let one = holds (take w ws) (length-take w ws ∙ omega (arith, size, room)) h.0 in
      let later = chunks_up holds n (drop w ws) (omega (arith, size, room, length-drop w ws)) h.1 in
      ((one.0, later.0), ap₂ ◌++◌ one.1 later.1 ∙ sym (take-add w (w * n) ws) ∙ sym (ap (λ (k : ℕ). take k ws) size))

  pub rows_up : Holds → (n : ℕ) (ws : List ℕ) → w * n ≤ length ws → rows_stored test w n ws ≡ true
      → Every P (map of (chunks w n ws)) × (padded (length ws) (flat_map words (map of (chunks w n ws))) ≡ ws)
  rows_up holds n ws room e =
      let h = (and_reads (all test (chunks w n ws)) (zeros (drop (w * n) ws))).0 e in
      let k = chunks_up holds n ws room h.0 in
      (k.0, ap (padded (length ws)) k.1 ∙ packed (w * n) ws room h.1)

  -- and the words of what meets its lines pass
  abbrev Passes : Type 0
  Passes = (a : A) → P a → (length (words a) ≡ w) × (test (words a) ≡ true)

  pub rows_down : Passes → (l : List A) (size : ℕ) → Every P l → rows_stored test w (length l) (padded size (flat_map words l)) ≡ true
  unfolding all
  rows_down passes l size h =
      let each : Every (λ a. length (words a) ≡ w) l = every_map P _ (λ a p. (passes a p).0) l h in
      let cut = chunks_flat_map w words l (replicate (size - length (flat_map words l)) 0) each in
      let long = length_flat_map w words l each in
      (and_reads _ _).1 (
        ap (all test) cut ∙ all_map l h,
        ap (λ (k : ℕ). zeros (drop k (padded size (flat_map words l)))) (sym long) ∙ unpacked size (flat_map words l),
      )
    where
      all_map : (l : List A) → Every P l → all test (map words l) ≡ true
      all_map [] h = refl
      all_map (a ∷ l) h = (and_reads _ _).1 ((passes a h.0).1, all_map l h.1)

-- ---- items
pub items_up : (n : ℕ) (ws : List ℕ) → 16 * n ≤ length ws → rows_stored item_stored 16 n ws ≡ true
    → Every (Meets item_line) (chunks 16 n ws) × (padded (length ws) (flat_map (λ (a : Item). a) (chunks 16 n ws)) ≡ ws)
items_up n ws room e =
    let h =
    rows_up 16 item_stored (λ a. a) (λ a. a) (Meets item_line)
    (λ a long fits. (record { least = omega (arith, long); most = omega (arith, long); fits = fits }, refl)) n ws room e
    in
    rw (map-id (chunks 16 n ws)) at h

pub items_down : (l : List Item) (size : ℕ) → Every (Meets item_line) l → rows_stored item_stored 16 (length l) (padded size (flat_map (λ (a : Item). a) l)) ≡ true
items_down l size h = rows_down 16 item_stored (λ a. a) (λ a. a) (Meets item_line) (λ a k. (omega (arith, k.least, k.most), k.fits)) l size h

-- ---- the head
-- the number at each place is in its range, and zeros are behind them
module _ (m : Limits) (ws : List ℕ) where
  abbrev HeadWithin : Type 0
  HeadWithin = (k : ℕ) → k < 6 → ((head_range m k).low ≤ get_or ws k 0) × (get_or ws k 0 ≤ (head_range m k).high)

  pub head_reads : (head_stored m ws ≡ true) ↔ (HeadWithin × (zeros (drop 6 ws) ≡ true))
  unfolding head_stored
  head_reads =
      let test : ℕ → Bool = λ k. between (head_range m k).low (head_range m k).high (get_or ws k 0) in
      let both = and_reads (all test (up_from 0 6)) (zeros (drop 6 ws)) in
      let each = all_reads test (up_from 0 6) in (
        (λ e. let h = both.0 e in ((λ k l. (between_reads _ _ _).0 (each.0 h.0 k ((in_up_from 0 6 k).1 (omega (arith, l))))), h.1)),
        (λ h. both.1 (each.1 (λ k i. (between_reads _ _ _).1 (h.0 k (omega (arith, (in_up_from 0 6 k).0 i)))), h.1)),
      )

  -- the six numbers, one by one
  pub six : 6 ≤ length ws → take 6 ws ≡ get_or ws 0 0 ∷ get_or ws 1 0 ∷ get_or ws 2 0 ∷ get_or ws 3 0 ∷ get_or ws 4 0 ∷ get_or ws 5 0 ∷ []
  unfolding up_from
  six h = sym (map_up_from ws 0 0 6 (omega (arith, h)))
