-- Used trucks in the manifest: the stacks of each stand together, by ascending number.
use mathlib.Core.Path.{◌≡◌, sym, ap, subst, ◌∙◌}
use mathlib.Core.Logic.{inl, ⊎_elim}
use mathlib.Core.Bool.{true, false}
use mathlib.Core.List.{List, [], ◌∷◌, ◌++◌, map}
use Prim.Native.Nat.{ℕ, zero, suc, ◌+◌, ◌-◌, ◌*◌, ◌≤◌, ◌<◌}
use native.Mathlib.Nat.{eq-or-lt_of_le}
use native.Mathlib.Omega.{arith}
use lib.ListN.{length, get_or, drop, length-take, length-drop, length-map, take-append-drop}
use lib.Seq.{get_or-take, get_or-drop, drop-drop}
use Rattle.meaning.specs.declared.Limits.{Limits}
use Rattle.meaning.specs.Lists.{In, Every, any, dedup}
use Rattle.meaning.specs.Model.{Stack, number, truck, copy}
use Rattle.meaning.specs.Measures.{UsedTruck, used_by, same_used, used_trucks, stacks_on}
use Rattle.meaning.specs.Table.{instance_in, stacks_in}
use Rattle.meaning.specs.Meets.{StacksMeet}
use Rattle.meaning.proofs.Tests.{fails}
use Rattle.meaning.proofs.Lists.{NoRepeat, at_in, in_at, in_map, every_at, every_map, every_reads, filter_all, map_at}
use Rattle.meaning.proofs.Permute.{map_perm, no_repeat_perm}
use Rattle.meaning.proofs.WellFormed.{not_earlier}
use Rattle.meaning.proofs.RuleKinds.{used_reads}
use Rattle.table.specs.Filled.{Filled, no_stack}
use Rattle.table.proofs.Bounds.{StackBounded}
use Rattle.table.proofs.Access.{stacks_in_lem}
use Rattle.manifest.specs.Manifest.{manifest_order, manifest_at, in_manifest, block, OneTruck, Parted}
use Rattle.manifest.proofs.Order.{order_within, order_rising, manifest_length, manifest_at_lem, manifest_perm}

-- ---- places of a list
module _ {A : Type 0} (d : A) where
  -- where no element stands twice, two places have different elements
  pub no_repeat_at : (l : List A) → NoRepeat l → (j k : ℕ) → j < k → k < length l → get_or l j d ≡ get_or l k d → ⊥
  no_repeat_at [] h j k less inside e = omega arith
  no_repeat_at (a ∷ l) h j zero less inside e = omega arith
  no_repeat_at (a ∷ l) h zero (suc k) less inside e = h.0 (subst (λ (b : A). In b l) (sym e) (at_in l d k (omega arith)))
  no_repeat_at (a ∷ l) h (suc j) (suc k) less inside e = no_repeat_at l h.1 j k (omega arith) (omega arith) e

-- ---- what the ranges give
-- copies and numbers that have room in the key, and no number twice
pub record Keyed (p : List Stack) : Type 0 where
  pub small : Every (λ (s : Stack). (copy s ≤ 99) × (number s ≤ 65535)) p
  pub once : NoRepeat (map number p)

numbers_once : (most items trucks : ℕ) (earlier : List ℕ) (loaded : ℕ) (p : List Stack) → StacksMeet most items trucks earlier loaded p → NoRepeat (map number p)
numbers_once most items trucks earlier loaded [] h = tt
numbers_once most items trucks earlier loaded (s ∷ p) h = (
  (λ m.
      let w = (in_map number p (number s)).0 m in
      not_earlier most items trucks (number s ∷ earlier) (loaded + length s.load) p h.2 w.0 w.1 (inl (sym w.2))),
  numbers_once most items trucks (number s ∷ earlier) (loaded + length s.load) p h.2,
)

pub filled_keyed : {m : Limits} {t : List ℕ} → Filled m t → Keyed (stacks_in m t)
filled_keyed {m} {t} h =
    let items = length (instance_in m t).items in
    let trucks = length (instance_in m t).trucks in
    record {
      small = every_map (StackBounded items trucks) (λ (s : Stack). (copy s ≤ 99) × (number s ≤ 65535))
          (λ s b. ((b.within 2 (omega arith)).1, (b.within 0 (omega arith)).1)) (stacks_in m t)
          (stacks_in_lem h);
      once = numbers_once m.loads items trucks [] 0 (stacks_in m t) h.range.stacks;
    }

-- ---- what the key keeps apart
-- where it does not fall, neither does the truck, nor on one truck the copy, nor on one used truck the number
key_parts : (a b c a' b' c' : ℕ) → b ≤ 99 → c ≤ 65535 → b' ≤ 99 → c' ≤ 65535 → (a * 100 + b) * 65536 + c ≤ (a' * 100 + b') * 65536 + c'
    → (a ≤ a') × (a ≡ a' → b ≤ b') × (a ≡ a' → b ≡ b' → c ≤ c')
key_parts a b c a' b' c' h i h' i' k = omega arith

same_truck : (s r : Stack) → used_by s ≡ used_by r → truck s ≡ truck r
same_truck s r e = ap (λ (u : UsedTruck). u.truck) e

same_copy : (s r : Stack) → used_by s ≡ used_by r → copy s ≡ copy r
same_copy s r e = ap (λ (u : UsedTruck). u.copy) e

-- ---- stacks of one used truck stand together
module _ {p : List Stack} (h : Keyed p) where
  small_at : (k : ℕ) → k < length p → (copy (manifest_at p k) ≤ 99) × (number (manifest_at p k) ≤ 65535)
  small_at k inside = every_at (λ (s : Stack). (copy s ≤ 99) × (number s ≤ 65535)) p no_stack (get_or (manifest_order p) k 0) h.small (order_within p k inside)

  number_at : (k : ℕ) → k < length p → get_or (map number (in_manifest p)) k 0 ≡ number (manifest_at p k)
  number_at k inside = map_at number (in_manifest p) k no_stack 0 (rw (manifest_length p) inside) ∙ ap number (manifest_at_lem p k inside)

  differ : (j k : ℕ) → j < k → k < length p → number (manifest_at p j) ≡ number (manifest_at p k) → ⊥
  differ j k less inside e =
      no_repeat_at 0 (map number (in_manifest p)) (no_repeat_perm (map_perm number (manifest_perm p)) h.once) j k less
      (rw (length-map (in_manifest p) number, manifest_length p) inside) (number_at j (omega arith) ∙ e ∙ sym (number_at k inside))

  rising_parts : (j k : ℕ) → j ≤ k → k < length p
      → (truck (manifest_at p j) ≤ truck (manifest_at p k))
      × (truck (manifest_at p j) ≡ truck (manifest_at p k) → copy (manifest_at p j) ≤ copy (manifest_at p k))
      × (truck (manifest_at p j) ≡ truck (manifest_at p k) → copy (manifest_at p j) ≡ copy (manifest_at p k) → number (manifest_at p j) ≤ number (manifest_at p k))
  rising_parts j k upto inside =
      let b = small_at j (omega arith) in
      let c = small_at k inside in
      key_parts _ _ _ _ _ _ b.0 b.1 c.0 c.1 (order_rising p j k upto inside)

  -- on one used truck they stand by ascending number
  number_rising : (j k : ℕ) → j < k → k < length p → used_by (manifest_at p j) ≡ used_by (manifest_at p k) → number (manifest_at p j) < number (manifest_at p k)
  number_rising j k less inside e =
      let s = manifest_at p j in
      let r = manifest_at p k in
      ⊎_elim (λ q. absurd (differ j k less inside q)) (λ q. q)
      (eq-or-lt_of_le ((rising_parts j k (omega arith) inside).2 (same_truck s r e) (same_copy s r e)))

  -- and what stands between two of them is on it too
  used_between : (j i k : ℕ) → j ≤ i → i ≤ k → k < length p → used_by (manifest_at p j) ≡ used_by (manifest_at p k) → used_by (manifest_at p i) ≡ used_by (manifest_at p k)
  used_between j i k low high inside e =
      let s = manifest_at p j in
      let r = manifest_at p k in
      let below = rising_parts j i low (omega arith) in
      let above = rising_parts i k high inside in
      let t : truck (manifest_at p i) ≡ truck r = omega (arith, below.0, above.0, same_truck s r e) in
      let c : copy (manifest_at p i) ≡ copy r = omega (arith, below.1 (same_truck s r e ∙ sym t), above.1 t, same_copy s r e) in
      λ z. record { truck = t z; copy = c z }

  -- ---- a used truck, and where it begins
  pub one_truck : (start end : ℕ) → start < end → end ≤ length p
      → ((k : ℕ) → start ≤ k → k < end → used_by (manifest_at p k) ≡ used_by (manifest_at p start)) → OneTruck p start end
  one_truck start end some within same =
      record {
        some = some;
        within = within;
        same = same;
        rising = λ j k from less up. number_rising j k less (omega arith) (same j from (omega arith) ∙ sym (same k (omega arith) up));
      }

  -- where two neighbours are on different used trucks, all before are parted from all behind
  pub parted_between : (at : ℕ) → 0 < at → (used_by (manifest_at p (at - 1)) ≡ used_by (manifest_at p at) → ⊥) → Parted p at
  parted_between at some differ =
      record {
        apart = λ j k low high inside.
            fails (same_used (used_by (manifest_at p j)) (used_by (manifest_at p k))) (λ z.
            let one-used = (used_reads (used_by (manifest_at p j)) (used_by (manifest_at p k))).0 z in
            let before = used_between j (at - 1) k (omega arith) (omega arith) inside one-used in
            differ (before ∙ sym (used_between j at k (omega arith) high inside one-used)));
      }

-- ---- places that part nothing
pub parted_first : (p : List Stack) (end : ℕ) → end ≤ 0 → Parted p end
parted_first p end none = record { apart = λ j k low high inside. absurd (omega arith) }

pub parted_end : (p : List Stack) → Parted p (length p)
parted_end p = record { apart = λ j k low high inside. absurd (omega arith) }

-- ---- the stacks of one used truck, as a list
pub block_split : (p : List Stack) (start end : ℕ) → start ≤ end → drop start (in_manifest p) ≡ block p start end ++ drop end (in_manifest p)
block_split p start end upto =
    let e : start + (end - start) ≡ end = omega arith in
    sym (take-append-drop (end - start) (drop start (in_manifest p)))
    ∙ ap (λ (l : List Stack). block p start end ++ l) (drop-drop (end - start) start (in_manifest p) ∙ ap (λ n. drop n (in_manifest p)) e)

module _ {p : List Stack} {start end : ℕ} (h : OneTruck p start end) where
  pub block_length : length (block p start end) ≡ end - start
  block_length = omega (arith, length-take (end - start) (drop start (in_manifest p)), length-drop start (in_manifest p), manifest_length p, h.within)

  pub block_at : (k : ℕ) → k < end - start → get_or (block p start end) k no_stack ≡ manifest_at p (start + k)
  block_at k inside =
      rw (get_or-take (end - start) (drop start (in_manifest p)) k no_stack inside, get_or-drop start (in_manifest p) k no_stack)
      (manifest_at_lem p (start + k) (omega (arith, h.within)))

  -- each stands at a place from `start` up to `end`
  pub block_place : (s : Stack) → In s (block p start end) → (k : ℕ) × (start ≤ k) × (k < end) × (s ≡ manifest_at p k)
  block_place s m =
      let w = in_at no_stack (block p start end) s m in
      let inside : w.0 < end - start = rw block_length at w.1 in
      (start + w.0, omega arith, omega arith, w.2 ∙ block_at w.0 inside)

  pub block_used : Every (λ (s : Stack). used_by s ≡ used_by (manifest_at p start)) (block p start end)
  block_used =
      (every_reads (λ (s : Stack). used_by s ≡ used_by (manifest_at p start)) (block p start end)).1
      (λ s m. let w = block_place s m in ap used_by w.3 ∙ h.same w.0 w.1 w.2)

  -- and none from `end` on is on its used truck
  pub block_apart : Parted p end → (s r : Stack) → In s (block p start end) → In r (drop end (in_manifest p)) → same_used (used_by s) (used_by r) ≡ false
  block_apart parted s r m n =
      let w = block_place s m in
      let v = in_at no_stack (drop end (in_manifest p)) r n in
      let inside : end + v.0 < length p = omega (arith, v.1, length-drop end (in_manifest p), manifest_length p) in
      let there : r ≡ manifest_at p (end + v.0) = v.2 ∙ get_or-drop end (in_manifest p) v.0 no_stack ∙ manifest_at_lem p (end + v.0) inside in
      rw (w.3, there) (parted.apart w.0 (end + v.0) w.2 (omega arith) inside)

-- ---- stacks that are all on one used truck
pub used_one : (u : UsedTruck) (l : List Stack) → 0 < length l → Every (λ (s : Stack). used_by s ≡ u) l → used_trucks l ≡ u ∷ []
unfolding used_trucks dedup any
used_one u [] some h = absurd (omega arith)
used_one u (s ∷ []) some h = ap (λ (v : UsedTruck). v ∷ []) h.0
used_one u (s ∷ r ∷ l) some h =
    let same : same_used (used_by s) (used_by r) ≡ true = (used_reads (used_by s) (used_by r)).1 (h.0 ∙ sym h.1.0) in
    rw same (used_one u (r ∷ l) (omega arith) h.1)

pub all_on : (u : UsedTruck) (l : List Stack) → Every (λ (s : Stack). used_by s ≡ u) l → stacks_on l u ≡ l
unfolding stacks_on
all_on u l one = filter_all _ l (every_map _ _ (λ s e. (used_reads u (used_by s)).1 (sym e)) l one)
