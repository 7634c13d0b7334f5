-- How large the numbers of a model in range are, by their place in the line.
use mathlib.Core.List.{List, [], ◌∷◌, map}
use Prim.Native.Nat.{ℕ, zero, suc, ◌+◌, ◌≤◌, ◌<◌}
use native.Mathlib.Omega.{arith}
use lib.Dec.{leb}
use lib.ListN.{length, get_or, get_or-map}
use Rattle.meaning.specs.Lists.{Every, all, between}
use Rattle.meaning.specs.Model.{Item, Stack, IL, IH, number}
use Rattle.meaning.specs.Files.{Range, ◌to◌, item_line, item_ranges, truck_line, truck_ranges, stack_line, stack_ranges, load_line}
use Rattle.meaning.specs.Meets.{Meets, StacksMeet}
use Rattle.meaning.proofs.Tests.{and_reads, between_reads}
use Rattle.meaning.proofs.Lists.{all_reads, at_in}
use Rattle.meaning.proofs.Fields.{Within, item_within, truck_within, stack_within}
use Rattle.table.specs.Filled.{item_most, truck_most, stack_most}

-- ---- the highest numbers
-- where the ranges end
abbrev ends : List Range → List ℕ
ends rs = map (λ (r : Range). r.high) rs

up_to_end : (rs : List Range) (n k : ℕ) → Within (get_or rs k (0 to 0)) n → n ≤ get_or (ends rs) k 0
up_to_end rs n k h = rw (get_or-map (λ (r : Range). r.high) rs k (0 to 0)) h.1

-- width and nesting height end where length and height do
item_ends : (a : Item) → IL a ≤ 20000 → IH a ≤ 20000 → (k : ℕ) → get_or (ends (item_ranges a)) k 0 ≤ item_most k
item_ends a long high zero = omega arith
item_ends a long high (suc zero) = omega arith
item_ends a long high (suc (suc zero)) = omega arith
item_ends a long high (suc (suc (suc zero))) = omega arith
item_ends a long high (suc (suc (suc (suc k)))) = omega arith

-- a stack's truck ends at the number of trucks
stack_ends : (trucks : ℕ) → trucks ≤ 16777216 → (k : ℕ) → get_or (ends (stack_ranges trucks)) k 0 ≤ stack_most k
stack_ends trucks few zero = omega arith
stack_ends trucks few (suc zero) = omega arith
stack_ends trucks few (suc (suc k)) = omega arith

pub item_most_lem : (a : Item) → Meets item_line a → (k : ℕ) → k < 16 → get_or a k 0 ≤ item_most k
item_most_lem a h k l =
    let within = item_within a h in
    omega (arith, up_to_end (item_ranges a) (get_or a k 0) k (within k l), item_ends a (within 0 (omega arith)).1 (within 2 (omega arith)).1 k)

pub truck_most_lem : (ns : List ℕ) → Meets truck_line ns → (k : ℕ) → k < 20 → get_or ns k 0 ≤ truck_most k
truck_most_lem ns h k l = up_to_end truck_ranges (get_or ns k 0) k (truck_within ns h k l)

-- ---- a stack of a plan in range, wherever it stands
pub record StackBounded (items trucks : ℕ) (s : Stack) : Type 0 where
  pub within : (k : ℕ) → k < 6 → Within (get_or (stack_ranges trucks) k (0 to 0)) (get_or s.fields k 0)
  pub some_entry : 1 ≤ length s.load
  pub few_entries : length s.load ≤ 64
  pub entries : (j : ℕ) → j < length s.load → Within (1 to items) (get_or s.load j 0)

module _ (most items trucks : ℕ) where
  stack_bounded : (earlier : List ℕ) (loaded : ℕ) (s : Stack) → Meets (stack_line trucks earlier) s.fields → Meets (load_line most items loaded) s.load
      → StackBounded items trucks s
  stack_bounded earlier loaded s f l =
      let each = ((and_reads (all (between 1 items) s.load) (leb (loaded + length s.load) most)).0 l.fits).0 in
      record {
        within = stack_within trucks earlier s.fields f;
        some_entry = l.least;
        few_entries = l.most;
        entries = λ j h. (between_reads 1 items (get_or s.load j 0)).0 ((all_reads (between 1 items) s.load).0 each _ (at_in s.load 0 j h));
      }

  pub stacks_bounded : (earlier : List ℕ) (loaded : ℕ) (p : List Stack) → StacksMeet most items trucks earlier loaded p → Every (StackBounded items trucks) p
  stacks_bounded earlier loaded [] h = tt
  stacks_bounded earlier loaded (s ∷ p) h =
      (stack_bounded earlier loaded s h.0 h.1, stacks_bounded (number s ∷ earlier) (loaded + length s.load) p h.2)

pub stack_most_lem : (items trucks : ℕ) (s : Stack) → StackBounded items trucks s → trucks ≤ 16777216 → (k : ℕ) → k < 6 → get_or s.fields k 0 ≤ stack_most k
stack_most_lem items trucks s h few k l =
    omega (arith, up_to_end (stack_ranges trucks) (get_or s.fields k 0) k (h.within k l), stack_ends trucks few k)
