-- The places of the rules on stacks, of one stack by what the code reads of its row and of the table.
use mathlib.Core.Path.{◌≡◌, refl, sym, ap, ◌∙◌}
use mathlib.Core.Bool.{Bool, not, cond, ◌&&◌, ◌||◌}
use mathlib.Core.List.{List, [], ◌∷◌, append-nil, flat_map}
use Prim.Native.Nat.{ℕ, ◌+◌, ◌*◌, ◌<◌}
use lib.Dec.{leb, eqb}
use lib.ListN.{length, get_or, drop}
use Rattle.std.specs.Prelude.{Option}
use Rattle.meaning.specs.declared.Limits.{Limits}
use Rattle.meaning.specs.declared.Place.{Place}
use Rattle.meaning.specs.Lists.{only_if, sum}
use Rattle.meaning.specs.Places.{place}
use Rattle.meaning.specs.Model.{Instance, Stack, item, truck_numbered, number, IM, ISM, TL, TW, TH, TMM, TF, TEM}
use Rattle.meaning.specs.Measures.{weight, sl, sw}
use Rattle.meaning.specs.Rules.{stack_places}
use Rattle.meaning.specs.Table.{instance_in, stacks_in}
use Rattle.table.specs.Filled.{stack_at}
use Rattle.search.specs.Lowest.{lowest_in}
use Rattle.views.specs.declared.Size.{Size}
use Rattle.views.specs.Views.{size_of, rank_of}
use Rattle.views.proofs.Bounds.{orders_bound}
use Rattle.manifest.specs.declared.row.Row.{Row}
use Rattle.manifest.specs.Manifest.{manifest_order, manifest_at, row_at, HoldsRows}
use Rattle.manifest.proofs.Order.{order_within}
use Rattle.manifest.proofs.Reading.{row_is, row_most, index_within, truck_is}
use Rattle.rules.specs.declared.ItemRule.{ItemRule}
use Rattle.rules.specs.declared.OwnRule.{OwnRule}
use Rattle.rules.specs.declared.OwnRule.TheVariants.{Docks, TopHeavy, TooMany, Dense, Outside}
use Rattle.rules.specs.declared.StackRule.TheVariants.{EachItem}
use Rattle.rules.specs.declared.Rule.TheVariants.{OfStacks}
use Rattle.rules.specs.LoadingRules.{item_test, own_test, own_amount}
use Rattle.stackrules.specs.StackRules.{RowOfStack, own_places, with_item}
use Rattle.stackrules.proofs.Docks.{docks_tested}

-- a test of the code, the stack's number and an amount give the place of a rule on that stack
one_stack_lem : (rule : OwnRule) (i : Instance) (s : Stack) (test : Bool) {n a : ℕ} {r : Option Place} → r ≡ lowest_in (only_if (not test) (place n a 0)) → n ≡ number s
    → a ≡ own_amount rule i s → test ≡ own_test rule i s → r ≡ lowest_in (own_places rule i s)
unfolding stack_places flat_map
one_stack_lem rule i s test er en ea et = er ∙ ap lowest_in (rw (et, en, ea) (sym (append-nil (only_if (not (own_test rule i s)) (place (number s) (own_amount rule i s) 0)))))

-- ---- the row of a stack
pub row_of_stack : {m : Limits} {t : List ℕ} {rows : List Row} → HoldsRows m t rows → (k : ℕ) → k < length (stacks_in m t)
    → RowOfStack (instance_in m t) (stacks_in m t) k (row_at rows k)
row_of_stack {m} {t} h k known = record {
  is = row_is h k known;
  known = index_within h k known;
  on_truck = (truck_is h k known).1;
  within = row_most h k known;
  few_docks = orders_bound h.filled (get_or (manifest_order (stacks_in m t)) k 0) (order_within (stacks_in m t) k known);
}

-- ---- each rule, by that row
module _ {i : Instance} {p : List Stack} {k : ℕ} {row : Row} (h : RowOfStack i p k row) where
  pub stack_same : stack_at p row.index ≡ manifest_at p k
  stack_same = rw h.is refl

  numbered : row.number ≡ number (manifest_at p k)
  numbered = rw h.is refl

  pub item_is : (rule : ItemRule) (n : ℕ) {r : Option Place} {kept : Bool} → kept ≡ item_test rule i (stack_at p row.index) (item i n)
      → r ≡ lowest_in (only_if (not kept) (place row.number n 0)) → r ≡ lowest_in (with_item i (manifest_at p k) n (OfStacks (EachItem rule)))
  unfolding with_item
  item_is rule n ek er = er ∙ rw (ek, h.is) refl

  pub docks_is : {r : Option Place} {flag : ℕ} → flag ≡ TF (truck_numbered i row.truck)
      → r ≡ lowest_in (only_if (not (leb row.plant_docks 1 || (eqb flag 1 && (eqb row.plant_docks 2 && eqb (row.rank.lowest + 1) row.rank.highest)))) (place row.number row.plant_docks 0))
      → r ≡ lowest_in (own_places Docks i (manifest_at p k))
  unfolding rank_of
  docks_is {flag = flag} ef er =
      let s = manifest_at p k in
      one_stack_lem Docks i s _ er numbered (rw h.is refl)
      (docks_tested i (s ∷ []) s row.plant_docks flag row.rank.lowest row.rank.highest h.few_docks (rw h.is refl) (ef ∙ rw h.is refl) (rw h.is refl) (rw h.is refl))

  pub top_heavy_is : {r : Option Place} {above limit : ℕ} {load : List ℕ} → load ≡ (stack_at p row.index).load → above ≡ sum (λ n. IM (item i n)) (drop 1 load)
      → limit ≡ TMM (truck_numbered i row.truck) → r ≡ lowest_in (only_if (not (leb above limit)) (place row.number above 0))
      → r ≡ lowest_in (own_places TopHeavy i (manifest_at p k))
  unfolding weight
  top_heavy_is {above = above} {limit = limit} eo ea el er =
      one_stack_lem TopHeavy i (manifest_at p k) (leb above limit) er numbered (rw (ea, eo, h.is) refl) (rw (ea, el, eo, h.is) refl)

  pub too_many_is : {r : Option Place} {most : ℕ} {load : List ℕ} → load ≡ (stack_at p row.index).load → most ≡ ISM (item i (get_or load 0 0))
      → r ≡ lowest_in (only_if (not (leb (length load) most)) (place row.number (length load) 0)) → r ≡ lowest_in (own_places TooMany i (manifest_at p k))
  too_many_is {most = most} {load = load} eo em er =
      one_stack_lem TooMany i (manifest_at p k) (leb (length load) most) er numbered (rw (eo, h.is) refl) (rw (em, eo, h.is) refl)

  pub dense_is : {r : Option Place} {limit long wide : ℕ} {kept : Bool} → limit ≡ TEM (truck_numbered i row.truck) → long ≡ sl i (stack_at p row.index)
      → wide ≡ sw i (stack_at p row.index) → kept ≡ leb (row.weight * 1000000) (limit * long * wide)
      → r ≡ lowest_in (only_if (not kept) (place row.number row.weight 0)) → r ≡ lowest_in (own_places Dense i (manifest_at p k))
  dense_is el elong ew ek er =
      one_stack_lem Dense i (manifest_at p k) _ er numbered (rw h.is refl) (rw (ek, el, elong, ew, h.is) refl)

  pub outside_is : {r : Option Place} {long wide high side : ℕ} {size : Size} {load : List ℕ} → load ≡ (stack_at p row.index).load
      → size ≡ size_of i load → long ≡ TL (truck_numbered i row.truck) → wide ≡ TW (truck_numbered i row.truck)
      → high ≡ TH (truck_numbered i row.truck) → side ≡ cond (not (leb row.footprint.xe long)) 1 (cond (not (leb row.footprint.ye wide)) 2 3)
      → r ≡ lowest_in (only_if (not ((leb row.footprint.xe long && leb row.footprint.ye wide) && leb size.height high)) (place row.number side 0))
      → r ≡ lowest_in (own_places Outside i (manifest_at p k))
  unfolding size_of
  outside_is {long = long} {wide = wide} {high = high} {size = size} eo eb el ew eh ed er =
      one_stack_lem Outside i (manifest_at p k) ((leb row.footprint.xe long && leb row.footprint.ye wide) && leb size.height high) er numbered
      (rw (ed, el, ew, h.is) refl) (rw (eb, el, ew, eh, eo, h.is) refl)
