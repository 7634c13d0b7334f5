-- Entries at the front of their words and zeros behind them: as a test of the words, and as words that are made of the entries.
use mathlib.Core.Path.{◌≡◌, refl, sym, ap, ap₂, ◌∙◌}
use mathlib.Core.Bool.{true, ◌&&◌}
use mathlib.Core.List.{List, [], ◌∷◌, ◌++◌}
use Prim.Native.Nat.{ℕ, zero, suc, ◌+◌, ◌-◌, ◌*◌, ◌≤◌}
use Prim.Native.String.{String}
use native.Mathlib.Omega.{arith}
use lib.ListN.{length, get_or, take, drop, replicate, length-take, length-drop, take-append-drop}
use lib.Seq.{take-nil, take_at, drop_at, take-take, drop-cons}
use Rattle.meaning.specs.Lists.{all, between, distinct, chunks, padded}
use Rattle.meaning.specs.Files.{identifiers_line}
use Rattle.meaning.specs.Table.{counted_words}
use Rattle.meaning.specs.Meets.{Meets}
use Rattle.meaning.proofs.Tests.{and_reads, between_reads}
use Rattle.meaning.proofs.Decode.{length_padded}
use Rattle.stored.specs.Parts.{zeros, entries_stored}
use Rattle.stored.proofs.Entries.{entries_reads}

-- ---- the front of a list
module _ {A : Type 0} where
  drop_front : (a s : ℕ) (l : List A) → drop a (take (a + s) l) ≡ take s (drop a l)
  drop_front zero s l = let e : 0 + s ≡ s = omega arith in ap (λ (k : ℕ). take k l) e
  drop_front (suc a) s [] = let e : suc a + s ≡ suc (a + s) = omega arith in ap (λ (k : ℕ). drop (suc a) (take k [])) e ∙ sym (take-nil s)
  drop_front (suc a) s (x ∷ l) =
      let e : suc a + s ≡ suc (a + s) = omega arith in
      ap (λ (k : ℕ). drop (suc a) (take k (x ∷ l))) e ∙ drop_front a s l

  -- rows that stand in it are rows of the list
  pub chunks_front : (w n k : ℕ) (l : List A) → n ≤ k → chunks w n (take (w * k) l) ≡ chunks w n l
  unfolding chunks
  chunks_front w zero k l h = refl
  chunks_front w (suc n) zero l h = absurd (omega arith)
  chunks_front w (suc n) (suc k) l h =
      let e : w * suc k ≡ w + w * k = omega arith in
      ap₂ (λ (r : List A) (rest : List (List A)). r ∷ rest) (take-take w (w * suc k) l (omega (arith, e)))
      (ap (λ (s : ℕ). chunks w n (drop w (take s l))) e ∙ ap (chunks w n) (drop_front w (w * k) l) ∙ chunks_front w n k (drop w l) (omega arith))

-- ---- zeros
pub zeros_are : (l : List ℕ) → zeros l ≡ true → l ≡ replicate (length l) 0
unfolding all
zeros_are [] e = refl
zeros_are (n ∷ l) e =
    let h = (and_reads (between 0 0 n) (zeros l)).0 e in
    let none : n ≡ 0 = omega (arith, (between_reads 0 0 n).0 h.0) in
    ap₂ (λ (a : ℕ) (r : List ℕ). a ∷ r) none (zeros_are l h.1)

pub zeros_made : (k : ℕ) → zeros (replicate k 0) ≡ true
unfolding all
zeros_made zero = refl
zeros_made (suc k) = zeros_made k

-- words that begin with some and are zero from there on are those, padded; and padded words are such
pub packed : (n : ℕ) (ws : List ℕ) → n ≤ length ws → zeros (drop n ws) ≡ true → padded (length ws) (take n ws) ≡ ws
packed n ws few e =
    let count : length ws - length (take n ws) ≡ length (drop n ws) = simp (length-take, length-drop) (omega arith) in
    ap (λ (k : ℕ). take n ws ++ replicate k 0) count ∙ ap (λ (r : List ℕ). take n ws ++ r) (sym (zeros_are (drop n ws) e)) ∙ take-append-drop n ws

pub unpacked : (w : ℕ) (l : List ℕ) → zeros (drop (length l) (padded w l)) ≡ true
unpacked w l = let zs = replicate {A = ℕ} (w - length l) 0 in ap zeros (drop_at l zs (length l) refl) ∙ zeros_made (w - length l)

-- ---- entries
pub record Entered (key : String) (n : ℕ) (ws : List ℕ) : Type 0 where
  pub meets : Meets (identifiers_line key (length ws)) (take n ws)
  pub few : n ≤ length ws
  pub count : length (take n ws) ≡ n
  pub words : padded (length ws) (take n ws) ≡ ws

pub entries_up : (key : String) (n : ℕ) (ws : List ℕ) → entries_stored n ws ≡ true → Entered key n ws
entries_up key n ws e =
    let h = entries_reads n ws e in
    let count : length (take n ws) ≡ n = length-take n ws ∙ omega (arith, h.0) in
    record {
      meets = record { least = omega (arith, count, h.0); most = omega (arith, count, h.0); fits = h.1 };
      few = h.0.1;
      count = count;
      words = packed n ws h.0.1 h.2;
    }

pub entries_down : (key : String) (w : ℕ) (l : List ℕ) → Meets (identifiers_line key w) l → entries_stored (length l) (padded w l) ≡ true
unfolding entries_stored
entries_down key w l h =
    let ws = padded w l in
    let n = length l in
    let front : take n ws ≡ l = take_at l (replicate (w - n) 0) n refl in
    let inside = (between_reads 1 (length ws) n).1 (h.least, omega (arith, h.most, length_padded w l h.most)) in
    let identifiers = ap (λ (r : List ℕ). all (between 1 65535) r && distinct r) front ∙ h.fits in
    (and_reads (between 1 (length ws) n && (all (between 1 65535) (take n ws) && distinct (take n ws))) (zeros (drop n ws))).1
    ((and_reads (between 1 (length ws) n) (all (between 1 65535) (take n ws) && distinct (take n ws))).1 (inside, identifiers), unpacked w l)

-- a list behind its count, at place `at` of some words
pub record Listed (key : String) (at w : ℕ) (ws : List ℕ) : Type 0 where
  pub meets : Meets (identifiers_line key w) (take (get_or ws at 0) (drop (suc at) ws))
  pub words : counted_words w (take (get_or ws at 0) (drop (suc at) ws)) ≡ take (suc w) (drop at ws)

pub list_up : (key : String) (at w : ℕ) (ws : List ℕ) → at + suc w ≤ length ws → entries_stored (get_or ws at 0) (take w (drop (suc at) ws)) ≡ true → Listed key at w ws
list_up key at w ws room e =
    let n = get_or ws at 0 in
    let part = take w (drop (suc at) ws) in
    let h = entries_up key n part e in
    let wide : length part ≡ w = simp (length-take, length-drop) (omega (arith, room)) in
    let same : take n part ≡ take n (drop (suc at) ws) = take-take n w (drop (suc at) ws) (omega (arith, h.few, wide)) in
    let stands : take (suc w) (drop at ws) ≡ n ∷ part = ap (take (suc w)) (drop-cons ws at 0 (omega (arith, room))) in
    record {
      meets = rw (same, wide) at h.meets;
      words = rw (← same) (ap₂ (λ (k : ℕ) (r : List ℕ). k ∷ r) h.count (rw wide at h.words) ∙ sym stands);
    }
