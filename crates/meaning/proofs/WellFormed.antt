-- What the ranges of a readable plan give to the picture: sizes that are not zero, orientations 1 and 2, lists without repeats, stacks known by their numbers.
use mathlib.Core.Path.{◌≡◌, sym, ap, subst, ◌∙◌}
use mathlib.Core.Logic.{◌⊎◌, inl, inr, ⊎_elim}
use mathlib.Core.Bool.{true, not}
use mathlib.Core.List.{List, [], ◌∷◌}
use Prim.Native.Nat.{ℕ, ◌+◌, ◌-◌, ◌≤◌}
use Prim.Native.String.{String}
use native.Mathlib.Nat.{eq-or-lt_of_le}
use native.Mathlib.Omega.{arith}
use lib.Dec.{leb}
use lib.ListN.{length, get_or}
use Rattle.meaning.specs.declared.Limits.{Limits}
use Rattle.meaning.specs.Lists.{In, Every, all, listed, distinct, between}
use Rattle.meaning.specs.Model.{Instance, Stack, item, no_truck, truck_of, number, truck, orientation, IL, IW, IH, nesting}
use Rattle.meaning.specs.Measures.{bottom}
use Rattle.meaning.specs.Files.{◌to◌, all_within, stack_ranges, identifiers_line, docks_line, item_line, stack_line, load_line}
use Rattle.meaning.specs.Meets.{Meets, TruckMeets, InstanceMeets, StacksMeet, FilesMeet}
use Rattle.meaning.proofs.Fields.{Within, item_within, stack_within}
use Rattle.meaning.proofs.Tests.{and_reads, not_reads, between_reads}
use Rattle.meaning.proofs.Lists.{all_reads, every_map, every_at, at_in, listed_reads}

-- of a stack: it has a bottom item, with an extent, an orientation, and a truck whose lists have no entry twice
pub record WellFormedStack (i : Instance) (s : Stack) : Type 0 where
  pub some : In (get_or s.load 0 0) s.load
  pub turned : (orientation s ≡ 1) ⊎ (orientation s ≡ 2)
  pub long : 1 ≤ IL (bottom i s)
  pub wide : 1 ≤ IW (bottom i s)
  pub nested : (n : ℕ) → In n s.load → nesting (item i n) ≤ IH (item i n)
  pub suppliers : distinct (truck_of i s).suppliers ≡ true
  pub docks : Every (λ (d : List ℕ). distinct d ≡ true) (truck_of i s).docks
  pub plant_docks : distinct (truck_of i s).plant_docks ≡ true

-- of a plan: every stack is well formed, and known by its number
pub record WellFormed (i : Instance) (p : List Stack) : Type 0 where
  pub stacks : (s : Stack) → In s p → WellFormedStack i s
  pub known : (s r : Stack) → In s p → In r p → number s ≡ number r → s ≡ r

-- ---- fields
-- a range that leaves two values, as an orientation has
one_or_two : (n : ℕ) → Within (1 to 2) n → (n ≡ 1) ⊎ (n ≡ 2)
one_or_two n h = ⊎_elim (λ e. inl (sym e)) (λ l. inr (omega (arith, h, l))) (eq-or-lt_of_le h.0)

-- the identifiers of a line are without repeats
line_distinct : (key : String) (most : ℕ) (ns : List ℕ) → Meets (identifiers_line key most) ns → distinct ns ≡ true
line_distinct key most ns h = ((and_reads (all (between 1 65535) ns) (distinct ns)).0 h.fits).1

-- ---- the stacks of an instance in range
module _ {m : Limits} {i : Instance} (h : InstanceMeets m i) where
  -- each number of a load is that of an item, which is in range
  loaded_meets : (loaded : ℕ) (ns : List ℕ) → Meets (load_line m.loads (length i.items) loaded) ns → (n : ℕ) → In n ns → Meets item_line (item i n)
  loaded_meets loaded ns l n k =
      let e = (and_reads (all (between 1 (length i.items)) ns) (leb (loaded + length ns) m.loads)).0 l.fits in
      let b = (between_reads 1 (length i.items) n).0 ((all_reads (between 1 (length i.items)) ns).0 e.0 n k) in
      every_at (Meets item_line) i.items [] (n - 1) h.items (omega (arith, b))

  -- what the two lines of a stack give
  stack_formed : (s : Stack) (earlier : List ℕ) (loaded : ℕ) → Meets (stack_line (length i.trucks) earlier) s.fields
      → Meets (load_line m.loads (length i.items) loaded) s.load → WellFormedStack i s
  stack_formed s earlier loaded f l =
      let first = at_in s.load 0 0 l.least in
      let meets = loaded_meets loaded s.load l in
      let bottomMeets = meets (get_or s.load 0 0) first in
      let field = stack_within (length i.trucks) earlier s.fields f in
      let ofTruck = every_at TruckMeets i.trucks no_truck (truck s - 1) h.trucks (omega (arith, field 1 (omega arith))) in
      record {
        some = first;
        turned = one_or_two (orientation s) (field 5 (omega arith));
        long = (item_within (bottom i s) bottomMeets 0 (omega arith)).0;
        wide = (item_within (bottom i s) bottomMeets 1 (omega arith)).0;
        nested = λ n k. omega (arith, item_within (item i n) (meets n k) 3 (omega arith));
        suppliers = line_distinct _ _ _ ofTruck.suppliers;
        docks = every_map (Meets docks_line) _ (line_distinct _ _) (truck_of i s).docks ofTruck.docks;
        plant_docks = line_distinct _ _ _ ofTruck.plant_docks;
      }

  -- and so every stack, whatever stands before it
  stacks_formed : (earlier : List ℕ) (loaded : ℕ) (p : List Stack) → StacksMeet m.loads (length i.items) (length i.trucks) earlier loaded p
      → (s : Stack) → In s p → WellFormedStack i s
  stacks_formed earlier loaded [] k s n = absurd n
  stacks_formed earlier loaded (r ∷ p) k s (inl e) = subst (WellFormedStack i) (sym e) (stack_formed r earlier loaded k.0 k.1)
  stacks_formed earlier loaded (r ∷ p) k s (inr n) = stacks_formed (number r ∷ earlier) _ p k.2 s n

-- ---- the numbers of the stacks
module _ (most items trucks : ℕ) where
  -- no stack has a number that is earlier
  pub not_earlier : (earlier : List ℕ) (loaded : ℕ) (p : List Stack) → StacksMeet most items trucks earlier loaded p
      → (s : Stack) → In s p → In (number s) earlier → ⊥
  not_earlier earlier loaded [] h s m k = m
  not_earlier earlier loaded (r ∷ p) h s (inl e) k =
      let f = (and_reads (all_within (stack_ranges trucks) r.fields) (not (listed (number r) earlier))).0 h.0.fits in
      (not_reads (listed (number r) earlier)).0 f.1 ((listed_reads (number r) earlier).1 (subst (λ (z : Stack). In (number z) earlier) e k))
  not_earlier earlier loaded (r ∷ p) h s (inr m) k = not_earlier (number r ∷ earlier) _ p h.2 s m (inr k)

  -- so two stacks with one number are one stack
  known_by_number : (earlier : List ℕ) (loaded : ℕ) (p : List Stack) → StacksMeet most items trucks earlier loaded p
      → (s r : Stack) → In s p → In r p → number s ≡ number r → s ≡ r
  known_by_number earlier loaded [] h s r m n e = absurd m
  known_by_number earlier loaded (q ∷ p) h s r (inl a) (inl b) e = a ∙ sym b
  known_by_number earlier loaded (q ∷ p) h s r (inl a) (inr n) e = absurd (not_earlier (number q ∷ earlier) _ p h.2 r n (inl (sym e ∙ ap number a)))
  known_by_number earlier loaded (q ∷ p) h s r (inr m) (inl b) e = absurd (not_earlier (number q ∷ earlier) _ p h.2 s m (inl (e ∙ ap number b)))
  known_by_number earlier loaded (q ∷ p) h s r (inr m) (inr n) e = known_by_number (number q ∷ earlier) _ p h.2 s r m n e

pub meets_formed : (m : Limits) (i : Instance) (p : List Stack) → FilesMeet m i p → WellFormed i p
meets_formed m i p h =
    record {
      stacks = stacks_formed h.instance [] 0 p h.stacks;
      known = known_by_number m.loads (length i.items) (length i.trucks) [] 0 p h.stacks;
    }
