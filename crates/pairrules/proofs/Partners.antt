-- Two stacks that break a rule, as places list them, and the partners that a stack is asked with.
use mathlib.Core.Path.{◌≡◌, refl, sym, ap, ◌∙◌}
use mathlib.Core.Logic.{◌↔◌, inl, inr, ⊎_elim}
use mathlib.Core.Bool.{Bool, true, false, not, ◌&&◌}
use mathlib.Core.List.{List}
use Prim.Native.Nat.{ℕ, ◌+◌, ◌-◌, ◌≤◌, ◌<◌}
use native.Mathlib.Decide.{dec_le}
use native.Mathlib.Omega.{arith}
use borrow.Author.Tests.{not-true, eqb-true}
use lib.Dec.{eqb, leb, ltb}
use lib.ListN.{length, get_or}
use Rattle.meaning.specs.declared.Limits.{Limits}
use Rattle.meaning.specs.declared.Place.{Place}
use Rattle.meaning.specs.Lists.{In}
use Rattle.meaning.specs.Model.{Instance, Stack, number}
use Rattle.meaning.specs.Measures.{UsedTruck, used_by, same_used, another}
use Rattle.meaning.specs.Places.{place}
use Rattle.meaning.specs.Rules.{pair_places, in_loading_order}
use Rattle.meaning.specs.Table.{instance_in, stacks_in}
use Rattle.meaning.proofs.Tests.{true≢false, and_reads, not_reads, le_reads, lt_reads, eq_reads, iff_trans, iff_both, iff_not}
use Rattle.meaning.proofs.Lists.{at_in, in_at, in_only_if, in_flat_map}
use Rattle.meaning.proofs.Permute.{perm_same}
use Rattle.meaning.proofs.RuleKinds.{used_reads}
use Rattle.meaning.proofs.WellFormed.{meets_formed}
use Rattle.table.specs.Filled.{no_stack}
use Rattle.manifest.specs.declared.Block.{Block}
use Rattle.manifest.specs.declared.row.Row.{Row}
use Rattle.manifest.specs.Manifest.{manifest_order, manifest_at, in_manifest, HoldsRows, OneTruck, Parted, row_at, same_truck_at}
use Rattle.manifest.proofs.Order.{order_within, order_rising, manifest_length, manifest_at_lem, manifest_perm}
use Rattle.manifest.proofs.Reading.{run_before, run_behind}
use Rattle.rules.specs.declared.PairRule.{PairRule}
use Rattle.rules.specs.declared.PairRule.TheVariants.{SecondPair, Overlap, Order}
use Rattle.rules.specs.LoadingRules.{pair_test}
use Rattle.pairrules.specs.PairRules.{Inside, BlockOf, KnownBlock, first_partner}
use Rattle.pairrules.proofs.Pairs.{self_in_order}

-- ---- the places of broken pairs
pub another_is : (s r : Stack) → (another s r ≡ true) ↔ ((used_by s ≡ used_by r) × (number s ≡ number r → ⊥))
another_is s r =
    let same = eqb (number s) (number r) in
    iff_trans (and_reads (same_used (used_by s) (used_by r)) (not same))
    (iff_both (used_reads (used_by s) (used_by r)) (iff_trans (not_reads same) (iff_not (eq_reads (number s) (number r)))))

-- two stacks that break a rule
pub record Broken (kept : Stack → Stack → Bool) (p : List Stack) (s r : Stack) : Type 0 where
  pub first : In s p
  pub second : In r p
  pub used : used_by s ≡ used_by r
  pub differ : number s ≡ number r → ⊥
  pub breaks : kept s r ≡ false

module _ (kept : Instance → Stack → Stack → Bool) (i : Instance) (p : List Stack) where
  pub pair_listed : (s r : Stack) → Broken (kept i) p s r → In (place (number s) (number r) 0) (pair_places kept i p)
  unfolding pair_places
  pair_listed s r h =
      let test : (another s r && not (kept i s r)) ≡ true = rw ((another_is s r).1 (h.used, h.differ), h.breaks) refl in
      (in_flat_map _ p _).1 (s, h.first, (in_flat_map _ p _).1 (r, h.second, (in_only_if (another s r && not (kept i s r)) _ _).1 (test, refl)))

  pub listed_pair : (q : Place) → In q (pair_places kept i p) → (s r : Stack) × Broken (kept i) p s r × (q ≡ place (number s) (number r) 0)
  unfolding pair_places
  listed_pair q m =
      let w = (in_flat_map _ p q).0 m in
      let v = (in_flat_map _ p q).0 w.2 in
      let e = (in_only_if (another w.0 v.0 && not (kept i w.0 v.0)) q _).0 v.2 in
      let h = (and_reads (another w.0 v.0) (not (kept i w.0 v.0))).0 e.0 in
      let o = (another_is w.0 v.0).0 h.0 in (
        w.0,
        v.0,
        record { first = w.1; second = v.1; used = o.0; differ = o.1; breaks = not-true (kept i w.0 v.0) h.1 },
        e.1,
      )

module _ {m : Limits} {t : List ℕ} {rows : List Row} (h : HoldsRows m t rows) where
  abbrev i : Instance
  i = instance_in m t

  abbrev p : List Stack
  p = stacks_in m t

  pub stack_in_lem : (k : ℕ) → k < length p → In (manifest_at p k) p
  stack_in_lem k inside = at_in p no_stack (get_or (manifest_order p) k 0) (order_within p k inside)

  pub stack_place_lem : (s : Stack) → In s p → (k : ℕ) × (k < length p) × (s ≡ manifest_at p k)
  stack_place_lem s there =
      let w = in_at no_stack (in_manifest p) s ((perm_same (manifest_perm p)).0 s there) in
      let inside : w.0 < length p = omega (arith, w.1, manifest_length p) in
      (w.0, inside, w.2 ∙ manifest_at_lem p w.0 inside)

  -- a stack is known by its number
  pub one_stack_lem : (s r : Stack) → In s p → In r p → number s ≡ number r → s ≡ r
  one_stack_lem = (meets_formed m i p h.filled.range).known

  -- on one used truck the number does not fall
  pub number_upto : (j k : ℕ) → j ≤ k → k < length p → used_by (manifest_at p j) ≡ used_by (manifest_at p k) → number (manifest_at p j) ≤ number (manifest_at p k)
  number_upto j k upto inside used =
      omega (arith, order_rising p j k upto inside, ap (λ (u : UsedTruck). u.truck) used, ap (λ (u : UsedTruck). u.copy) used)

  -- ---- the partners of the stack at place a
  module _ {a : ℕ} {on : Block} (around : BlockOf rows a (length p) on) where
    before_it : OneTruck p on.start (a + 1) × Parted p on.start
    before_it = run_before h (omega (arith, around.behind.some, around.behind.within)) around.before

    behind_it : OneTruck p a on.end × Parted p on.end
    behind_it = run_behind h around.behind

    pub inside_a : (on.start ≤ a) × (a < on.end) × (on.end ≤ length p)
    inside_a = (omega (arith, before_it.0.some), behind_it.0.some, behind_it.0.within)

    -- those of its used truck are in the block, and no others
    pub block_used : (k : ℕ) → Inside on.start on.end k → used_by (manifest_at p a) ≡ used_by (manifest_at p k)
    block_used k inside = go (dec_le a k)
      where
        go : Dec (a ≤ k) → used_by (manifest_at p a) ≡ used_by (manifest_at p k)
        go (yes l) = sym (behind_it.0.same k l inside.1)
        go (no l) = before_it.0.same a inside_a.0 (omega arith) ∙ sym (before_it.0.same k inside.0 (omega arith))

    pub used_block : (k : ℕ) → k < length p → used_by (manifest_at p a) ≡ used_by (manifest_at p k) → Inside on.start on.end k
    used_block k within used = (from (dec_le on.start k), upto (dec_le on.end k))
      where
        from : Dec (on.start ≤ k) → on.start ≤ k
        from (yes l) = l
        from (no l) =
            absurd (true≢false (sym ((used_reads _ _).1 (sym used)) ∙ before_it.1.apart k a (omega arith) inside_a.0 (omega (arith, inside_a))))

        upto : Dec (on.end ≤ k) → k < on.end
        upto (yes l) = absurd (true≢false (sym ((used_reads _ _).1 used) ∙ behind_it.1.apart a k inside_a.1 l within))
        upto (no l) = omega arith

    -- the partners are in the block
    pub some_partners : (r : PairRule) → (on.start ≤ first_partner r a on.start) × (first_partner r a on.start ≤ on.end)
    some_partners SecondPair = (omega (arith, inside_a), omega (arith, inside_a))
    some_partners Overlap = (omega (arith, inside_a), omega (arith, inside_a))
    some_partners Order = (omega arith, omega (arith, inside_a))

    -- a partner is another stack, unless it is the stack itself, which keeps the rule
    pub partner_differs : (r : PairRule) → (k : ℕ) → first_partner r a on.start ≤ k → k < on.end
        → pair_test r i (manifest_at p a) (manifest_at p k) ≡ false → number (manifest_at p a) ≡ number (manifest_at p k) → ⊥
    partner_differs SecondPair k low up breaks e = omega (arith, behind_it.0.rising a k (omega arith) (omega arith) up)
    partner_differs Overlap k low up breaks e = omega (arith, behind_it.0.rising a k (omega arith) (omega arith) up)
    partner_differs Order k low up breaks e =
        let same = one_stack_lem _ _ (stack_in_lem a (omega (arith, inside_a))) (stack_in_lem k (omega (arith, inside_a))) e in
        true≢false (sym (self_in_order i (manifest_at p a)) ∙ ap (in_loading_order i (manifest_at p a)) same ∙ breaks)

-- ---- the block of one stack is that of each in it
-- two rows of one used truck are alike to any other
same_moved : (rows : List Row) (a b k : ℕ) → same_truck_at rows b a ≡ true → same_truck_at rows a k ≡ same_truck_at rows b k
same_moved rows a b k e =
    let r = row_at rows a in
    let q = row_at rows b in
    let both = (and_reads (eqb q.truck r.truck) (eqb q.copy r.copy)).0 e in
    rw (eqb-true q.truck r.truck both.0, eqb-true q.copy r.copy both.1) refl

module _ {rows : List Row} {count : ℕ} {on : Block} where
  block_moved : {a b : ℕ} → BlockOf rows b count on → Inside on.start on.end a → BlockOf rows a count on
  block_moved {a} {b} h inside =
      record {
        before = record {
          some = omega (arith, inside);
          same = λ k from up. last a k ∙ moved k ∙ of_truck k (from, omega (arith, inside)) (dec_le b k);
          whole = ⊎_elim inl (λ e. inr (last a _ ∙ moved _ ∙ sym (last b _) ∙ e)) h.before.whole;
        };
        behind = record {
          some = inside.1;
          within = h.behind.within;
          same = λ k from up. moved k ∙ of_truck k (omega (arith, inside), up) (dec_le b k);
          whole = ⊎_elim inl (λ e. inr (moved _ ∙ e)) h.behind.whole;
        };
      }
    where
      last : (c k : ℕ) → same_truck_at rows (c + 1 - 1) k ≡ same_truck_at rows c k
      last c k = ap (λ n. same_truck_at rows n k) (omega arith)

      of_truck : (k : ℕ) → Inside on.start on.end k → Dec (b ≤ k) → same_truck_at rows b k ≡ true
      of_truck k at (yes l) = h.behind.same k l at.1
      of_truck k at (no l) = sym (last b k) ∙ h.before.same k at.0 (omega arith)

      moved : (k : ℕ) → same_truck_at rows a k ≡ same_truck_at rows b k
      moved k = same_moved rows a b k (of_truck a inside (dec_le b a))

  pub block_kept : {a : ℕ} → KnownBlock rows count on → (leb on.start a && ltb a on.end) ≡ true → BlockOf rows a count on
  block_kept {a} known e =
      let both = (and_reads (leb on.start a) (ltb a on.end)).0 e in
      let inside : Inside on.start on.end a = ((le_reads on.start a).0 both.0, (lt_reads a on.end).0 both.1) in
      ⊎_elim (λ none. absurd (omega (arith, inside))) (λ w. block_moved w.1 inside) known
