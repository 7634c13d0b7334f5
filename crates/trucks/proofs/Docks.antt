-- The docks of a truck's suppliers: their counts, and behind these eight words for each supplier.
use mathlib.Core.Path.{◌≡◌, refl, ◌∙◌}
use mathlib.Core.List.{List, [], ◌∷◌, ◌++◌, map, append_assoc, map-append}
use Prim.Native.Nat.{ℕ, ◌+◌, ◌-◌, ◌*◌, ◌≤◌, ◌<◌}
use native.Mathlib.Numerals.{add-one}
use native.Mathlib.Omega.{arith}
use borrow.Rule.Slice.PartMut.{put_mid, mid_len}
use lib.ListN.{length, take, drop, set, replicate}
use lib.Seq.{take-append-add, drop-append-add, drop-drop, set_split, set-append_left}
use Rattle.meaning.specs.Lists.{padded}
use Rattle.trucks.specs.Rows.{dock_words}
use Rattle.trucks.proofs.Repeat.{Front, front_clear, front_length, front_put, Runs, runs_clear, runs_put}

-- a run put behind a first part
put_behind : (xs ys run : List ℕ) (a at k : ℕ) → length xs ≡ a → put_mid (a + at) k (xs ++ ys) run ≡ xs ++ put_mid at k ys run
put_behind xs ys run a at k e = rw (← e, take-append-add xs ys at, drop-append-add xs ys at) (append_assoc xs (take at ys) (run ++ drop k (drop at ys)))

-- a store is a run of one word
store_put : (l : List ℕ) (i v : ℕ) → i < length l → set l i v ≡ put_mid i 1 l (v ∷ [])
store_put l i v h = set_split l i v h ∙ rw (drop-drop 1 i l, add-one i) refl

-- the words of k suppliers
pub record Docks (k : ℕ) (ds : List (List ℕ)) (out : List ℕ) : Type 0 where
  pub counts : List ℕ
  pub lists : List ℕ
  pub counted : Front 8 k (map length ds) counts
  pub listed : Runs 64 8 (padded 8) k ds lists
  pub whole : out ≡ counts ++ lists

pub docks_clear : (out : List ℕ) → out ≡ replicate 72 0 → Docks 0 [] out
docks_clear out e = record {
  counts = replicate 8 0;
  lists = replicate 64 0;
  counted = front_clear 8 _ refl;
  listed = runs_clear 64 8 (padded 8) _ refl;
  whole = e;
}

-- the words that are lent to a supplier's docks
pub docks_lent : (k : ℕ) (out : List ℕ) → 8 + 8 * k + 8 ≤ length out → length (take (8 + 8 * k + 8 - (8 + 8 * k)) (drop (8 + 8 * k) out)) ≡ 8
docks_lent k out h = mid_len (8 + 8 * k) (8 + 8 * k + 8) out h ∙ omega arith

-- the docks of one more supplier, and their count
pub docks_more : {k : ℕ} {ds : List (List ℕ)} {out : List ℕ} → Docks k ds out → k < 8 → (run d : List ℕ) (v : ℕ) → length run ≡ 8 → run ≡ padded 8 d
    → v ≡ length d → Docks (k + 1) (ds ++ d ∷ []) (set (put_mid (8 + 8 * k) (8 + 8 * k + 8 - (8 + 8 * k)) out run) k v)
docks_more {k} {ds} {out} s h run d v l words count =
    let lent : 8 + 8 * k + 8 - (8 + 8 * k) ≡ 8 = omega arith in
    let eight : length s.counts ≡ 8 = front_length s.counted (omega arith) in
    let inside : k < length s.counts = omega arith in
    let lists = put_mid (8 * k) 8 s.lists run in
    record {
      counts = set s.counts k v;
      lists = lists;
      counted = rw (store_put s.counts k v inside, map-append length ds (d ∷ []), ← count) (front_put s.counted 1 (v ∷ []) refl (omega arith));
      listed = runs_put s.listed 8 run d refl (omega arith) l words;
      whole = rw (lent, s.whole, put_behind s.counts s.lists run 8 (8 * k) 8 eight) (set-append_left s.counts lists k v inside);
    }

pub docks_words : {k : ℕ} {out : List ℕ} (ds : List (List ℕ)) → Docks k ds out → out ≡ dock_words ds
docks_words ds s = s.whole ∙ rw (s.counted.stands, s.listed.front.stands) refl
