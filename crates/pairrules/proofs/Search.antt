-- The search for the lowest pair of stacks that breaks a rule: the stacks by ascending number, and with each its partners on its used truck.
use mathlib.Core.Path.{◌≡◌, sym, ap, ap₂, subst, ◌∙◌}
use mathlib.Core.Logic.{inl, inr, ⊎_elim}
use mathlib.Core.Bool.{Bool, true, false}
use mathlib.Core.List.{List}
use Prim.Native.Nat.{ℕ, ◌+◌, ◌≤◌, ◌<◌}
use native.Mathlib.Nat.{eq-or-lt_of_le}
use native.Mathlib.Decide.{dec_le}
use native.Mathlib.Omega.{arith}
use lib.ListN.{length, get_or}
use Rattle.std.specs.Prelude.{Some, None}
use Rattle.meaning.specs.declared.Limits.{Limits}
use Rattle.meaning.specs.declared.Place.{Place}
use Rattle.meaning.specs.Lists.{In}
use Rattle.meaning.specs.Model.{Instance, Stack, number}
use Rattle.meaning.specs.Measures.{used_by}
use Rattle.meaning.specs.Places.{place}
use Rattle.meaning.specs.Rules.{pair_places}
use Rattle.meaning.specs.Claims.{Before}
use Rattle.meaning.specs.Table.{instance_in, stacks_in}
use Rattle.meaning.proofs.Tests.{true≢false}
use Rattle.search.specs.Lowest.{lowest_in}
use Rattle.search.proofs.Lowest.{found_first, found_none}
use Rattle.manifest.specs.declared.Block.{Block}
use Rattle.manifest.specs.declared.row.Row.{Row}
use Rattle.manifest.specs.Manifest.{manifest_at, HoldsRows, row_at}
use Rattle.manifest.proofs.Reading.{row_is}
use Rattle.rules.specs.declared.PairRule.{PairRule}
use Rattle.rules.specs.declared.PairRule.TheVariants.{SecondPair, Overlap, Order}
use Rattle.rules.specs.LoadingRules.{pair_test}
use Rattle.pairrules.specs.PairRules.{SortedRows, place_at, whole_plan, BlockOf, first_partner}
use Rattle.pairrules.proofs.Places.{Upto, upto_more}
use Rattle.pairrules.proofs.Sorted.{place_within, place_there, key_rising}
use Rattle.pairrules.proofs.Pairs.{single_turned, disjoint_turned}
use Rattle.pairrules.proofs.Partners.{Broken, pair_listed, listed_pair, stack_in_lem, stack_place_lem, one_stack_lem, number_upto, inside_a, block_used, used_block, some_partners, partner_differs}

-- ---- what the loops have passed
-- a stack keeps a rule with every other on its used truck
abbrev pub KeepsWithAll : PairRule → Instance → List Stack → Stack → Type 0
KeepsWithAll rule i p s = (r : Stack) → In r p → used_by s ≡ used_by r → (number s ≡ number r → ⊥) → pair_test rule i s r ≡ true

-- so do the first k stacks by number
pub record StacksPassed (rule : PairRule) (m : Limits) (t : List ℕ) (rows : List Row) (order : List ℕ) (k : ℕ) : Type 0 where
  pub held : HoldsRows m t rows
  pub sorted : SortedRows rows (whole_plan (length (stacks_in m t))) (λ (r : Row). r.number) order
  pub passed : Upto (λ l. KeepsWithAll rule (instance_in m t) (stacks_in m t) (manifest_at (stacks_in m t) (get_or order l 0))) 0 (length (stacks_in m t)) k

-- and the next one, at place a, with its partners before place b
pub record PartnersPassed (rule : PairRule) (m : Limits) (t : List ℕ) (rows : List Row) (order : List ℕ) (k a : ℕ) (on : Block) (b : ℕ) : Type 0 where
  pub inside : k < length (stacks_in m t)
  pub is : a ≡ get_or order k 0
  pub around : BlockOf rows a (length (stacks_in m t)) on
  pub passed : Upto (λ j. pair_test rule (instance_in m t) (manifest_at (stacks_in m t) a) (manifest_at (stacks_in m t) j) ≡ true)
      (first_partner rule a on.start) on.end b

-- ---- the stacks by number
module _ {rule : PairRule} {m : Limits} {t : List ℕ} {rows : List Row} {order : List ℕ} {k : ℕ} (stacks : StacksPassed rule m t rows order k) where
  abbrev i : Instance
  i = instance_in m t

  abbrev p : List Stack
  p = stacks_in m t

  -- the places in this order are places of the rows, and their numbers do not fall
  pub numbered_within : (l : ℕ) → l < length p → get_or order l 0 < length p
  numbered_within l inside = omega (arith, place_within stacks.sorted l (omega arith))

  numbered_at : (l : ℕ) → l < length p → (row_at rows (place_at (whole_plan (length p)) order l)).number ≡ number (manifest_at p (get_or order l 0))
  numbered_at l inside =
      let e : place_at (whole_plan (length p)) order l ≡ get_or order l 0 = omega arith in
      rw e (ap (λ (r : Row). r.number) (row_is stacks.held (get_or order l 0) (numbered_within l inside)))

  numbered_there : (s : Stack) → In s p → (l : ℕ) × (l < length p) × (s ≡ manifest_at p (get_or order l 0))
  numbered_there s there =
      let w = stack_place_lem stacks.held s there in
      let v = place_there stacks.sorted w.0 (omega arith, w.1) in
      let e : w.0 ≡ get_or order v.0 0 = omega (arith, v.2) in
      (v.0, omega (arith, v.1), w.2 ∙ ap (manifest_at p) e)

  -- a stack that has come keeps the rule with all
  come : (s : Stack) (l : ℕ) → l < k → s ≡ manifest_at p (get_or order l 0) → KeepsWithAll rule i p s
  come s l less is = subst (λ (r : Stack). KeepsWithAll rule i p r) (sym is) (stacks.passed.each l (omega arith) less)

  -- and each with a lower number than the next has come
  earlier : k < length p → (s : Stack) → In s p → number s < number (manifest_at p (get_or order k 0)) → KeepsWithAll rule i p s
  earlier inside s there less = let w = numbered_there s there in go w.0 w.1 w.2 (dec_le k w.0)
    where
      go : (l : ℕ) → l < length p → s ≡ manifest_at p (get_or order l 0) → Dec (k ≤ l) → KeepsWithAll rule i p s
      go l up is (yes q) =
          let rising = key_rising stacks.sorted k l q (omega arith) in
          absurd (omega (arith, rising, numbered_at k inside, numbered_at l up, ap number is))
      go l up is (no q) = come s l (omega arith) is

  -- where every stack has come, no pair breaks the rule
  pub pair_none : length p ≤ k → None ≡ lowest_in (pair_places (pair_test rule) i p)
  pair_none last =
      found_none _ (λ q m.
      let w = listed_pair (pair_test rule) i p q m in
      let z = numbered_there w.0 w.2.first in
      true≢false (sym (come w.0 z.0 (omega (arith, z.1)) z.2 w.1 w.2.second w.2.used w.2.differ) ∙ w.2.breaks))

  -- ---- one stack with its partners
  module _ {a b : ℕ} {on : Block} (l : PartnersPassed rule m t rows order k a on b) where
    abbrev s : Stack
    s = manifest_at p a

    first_within : a < length p
    first_within = omega (arith, inside_a stacks.held l.around)

    -- both are places of the rows
    pub within : b < on.end → (a < length p) × (b < length p)
    within up = (first_within, omega (arith, inside_a stacks.held l.around))

    -- a stack of the used truck with a lower number has been asked
    asked_turned : (j : ℕ) → j < length p → used_by s ≡ used_by (manifest_at p j) → number (manifest_at p j) < number s → pair_test rule i (manifest_at p j) s ≡ true
    asked_turned j there used less =
        earlier l.inside (manifest_at p j) (stack_in_lem stacks.held j there) (rw l.is at less) s (stack_in_lem stacks.held a first_within) (sym used) (λ e. omega arith)

    lower_number : (j : ℕ) → j ≤ a → used_by s ≡ used_by (manifest_at p j) → (number s ≡ number (manifest_at p j) → ⊥) → number (manifest_at p j) < number s
    lower_number j upto used differ =
        ⊎_elim (λ e. absurd (differ (sym e))) (λ less. less) (eq-or-lt_of_le (number_upto stacks.held j a upto first_within (sym used)))

    -- so has one that stands before the partners
    asked : (r : PairRule)
        → ((j : ℕ) → j < length p → used_by s ≡ used_by (manifest_at p j) → number (manifest_at p j) < number s → pair_test r i (manifest_at p j) s ≡ true)
        → (j : ℕ) → j < length p → used_by s ≡ used_by (manifest_at p j) → (number s ≡ number (manifest_at p j) → ⊥) → j < first_partner r a on.start
        → pair_test r i s (manifest_at p j) ≡ true
    asked SecondPair turned j there used differ less =
        single_turned i s (manifest_at p j) ∙ turned j there used (lower_number j (omega arith) used differ)
    asked Overlap turned j there used differ less =
        disjoint_turned i s (manifest_at p j) ∙ turned j there used (lower_number j (omega arith) used differ)
    asked Order turned j there used differ less = absurd (omega (arith, used_block stacks.held l.around j there used))

    -- with those before b it keeps the rule, whether they were asked now or earlier
    with_each : (j : ℕ) → j < length p → used_by s ≡ used_by (manifest_at p j) → (number s ≡ number (manifest_at p j) → ⊥) → j < b → pair_test rule i s (manifest_at p j) ≡ true
    with_each j there used differ less = go (dec_le (first_partner rule a on.start) j)
      where
        go : Dec (first_partner rule a on.start ≤ j) → pair_test rule i s (manifest_at p j) ≡ true
        go (yes q) = l.passed.each j q less
        go (no q) = asked rule asked_turned j there used differ (omega arith)

    -- and so with all, after the last partner
    pub stacks_more : on.end ≤ b → StacksPassed rule m t rows order (k + 1)
    stacks_more last =
        record {
          held = stacks.held;
          sorted = stacks.sorted;
          passed = upto_more stacks.passed l.inside (subst (λ j. KeepsWithAll rule i p (manifest_at p j)) l.is (λ r there used differ.
              let w = stack_place_lem stacks.held r there in
              let on-it : used_by s ≡ used_by (manifest_at p w.0) = used ∙ ap used_by w.2 in
              ap (pair_test rule i s) w.2
              ∙ with_each w.0 w.1 on-it (λ q. differ (q ∙ sym (ap number w.2))) (omega (arith, used_block stacks.held l.around w.0 w.1 on-it))));
        }

    module _ (up : b < on.end) {kept : Bool} (asks : kept ≡ pair_test rule i s (manifest_at p b)) where
      -- the first pair that breaks the rule is the lowest
      module _ (e : kept ≡ false) where
        found : Broken (pair_test rule i) p s (manifest_at p b)
        found =
            let breaks : pair_test rule i s (manifest_at p b) ≡ false = sym asks ∙ e in
            record {
              first = stack_in_lem stacks.held a first_within;
              second = stack_in_lem stacks.held b (within up).1;
              used = block_used stacks.held l.around b (omega (arith, some_partners stacks.held l.around rule, l.passed.from), up);
              differ = partner_differs stacks.held l.around rule b l.passed.from up breaks;
              breaks = breaks;
            }

        -- a partner with a lower number stands before b
        before_b : (j : ℕ) → j < length p → used_by s ≡ used_by (manifest_at p j) → number (manifest_at p j) < number (manifest_at p b) → j < b
        before_b j there used less = go (dec_le b j)
          where
            go : Dec (b ≤ j) → j < b
            go (yes q) = absurd (omega (arith, number_upto stacks.held b j q there (sym found.used ∙ used)))
            go (no q) = omega arith

        none_before : (u v : Stack) → Broken (pair_test rule i) p u v → Before (place (number u) (number v) 0) (place (number s) (number (manifest_at p b)) 0) → ⊥
        none_before u v w (inl less) =
            true≢false (sym (earlier l.inside u w.first (rw l.is at less) v w.second w.used w.differ) ∙ w.breaks)
        none_before u v w (inr (same, inl less)) =
            let one : u ≡ s = one_stack_lem stacks.held u s w.first found.first same in
            let z = stack_place_lem stacks.held v w.second in
            let used : used_by s ≡ used_by (manifest_at p z.0) = sym (ap used_by one) ∙ w.used ∙ ap used_by z.2 in
            let differ : number s ≡ number (manifest_at p z.0) → ⊥ = λ q. w.differ (ap number one ∙ q ∙ sym (ap number z.2)) in
            let kept = with_each z.0 z.1 used differ (before_b z.0 z.1 used (omega (arith, less, ap number z.2))) in
            true≢false (sym kept ∙ sym (ap₂ (pair_test rule i) one z.2) ∙ w.breaks)
        none_before u v w (inr (same, inr (same', less))) = omega arith

        pub pair_found : {first second : ℕ} → first ≡ (row_at rows a).number → second ≡ (row_at rows b).number
            → Some (place first second 0) ≡ lowest_in (pair_places (pair_test rule) i p)
        pair_found ef es =
            rw (ef, es, row_is stacks.held a first_within, row_is stacks.held b (within up).1)
            (found_first _ _ (pair_listed (pair_test rule) i p s (manifest_at p b) found) (λ q m before.
            let w = listed_pair (pair_test rule) i p q m in
            none_before w.0 w.1 w.2 (subst (λ (z : Place). Before z (place (number s) (number (manifest_at p b)) 0)) w.3 before)))
