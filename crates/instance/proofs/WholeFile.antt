-- The whole instance file: head, items and trucks one after another, each into its own part of the words.
use mathlib.Core.Path.{◌≡◌, refl, sym, ap₂, ◌∙◌}
use mathlib.Core.List.{List, [], ◌++◌}
use Prim.Native.Nat.{ℕ, suc, ◌*◌}
use lib.ListN.{length, drop}
use Rattle.meaning.specs.declared.Limits.{Limits}
use Rattle.meaning.specs.Model.{Instance, Item, Truck}
use Rattle.meaning.specs.Reader.{Reader, give, onward, ◌>>=◌, line, times, at_end}
use Rattle.meaning.specs.Files.{number_line, ◌to◌, item_line, truck_lines, instance_lines}
use Rattle.meaning.specs.Table.{truck_words}
use Rattle.std.specs.Prelude.{Ok, Err}
use Rattle.lines.specs.declared.LineRefused.{LineRefused}
use Rattle.lines.specs.declared.cursor.Cursor.{Cursor}
use Rattle.lines.specs.declared.LineValue.{LineValue}
use Rattle.lines.specs.Progress.{Progress, resumed, Going, ended_as, ReadInto}
use Rattle.lines.proofs.Follow.{regroup, behind, behind_last, stopped, times_count}
use Rattle.trucks.specs.Rows.{rows}
use Rattle.instance.specs.declared.HeadCounts.{HeadCounts}
use Rattle.instance.specs.Words.{HeadNumbers, head_lines, head_row, HeadPromise, instance_file, instance_words}
use Rattle.instance.proofs.HeadLines.{head_numbers, from_inventory, from_extra, from_items, from_trucks}
use Rattle.lines.proofs.Ended.{read_to_end}

-- ---- the lines behind the head
abbrev instance_of : HeadNumbers → List Item → List Truck → Instance
instance_of h items trucks = record { αT = h.αT; αI = h.αI; αE = h.αE; items = items; trucks = trucks }

abbrev after_items : HeadNumbers → List Item → Reader Instance
after_items h items = times h.trucks truck_lines >>= λ trucks. give (instance_of h items trucks)

abbrev after_head : HeadNumbers → Reader Instance
after_head h = times h.items (line item_line) >>= after_items h

-- the head's lines, and then those behind it, are the instance's lines
head_first : (m : Limits) (n : ℕ) (bs : List ℕ) → onward (head_lines m n bs) after_head ≡ instance_lines m n bs
unfolding head_lines instance_lines onward
head_first m n bs =
    regroup (number_line "transport=" (0 to 1000) n bs) (from_inventory m) after_head _ (λ αT n bs.
    regroup (number_line "inventory=" (0 to 1000) n bs) (from_extra m αT) after_head _ (λ αI n bs.
    regroup (number_line "extra=" (0 to 1000) n bs) (from_items m αT αI) after_head _ (λ αE n bs.
    regroup (number_line "items=" (1 to m.items) n bs) (from_trucks m αT αI αE) after_head _ (λ items n bs.
    regroup (number_line "trucks=" (1 to m.trucks) n bs) (λ trucks. give (head_numbers αT αI αE items trucks)) after_head _ (λ trucks n bs. refl)))))

no_instance : Instance
no_instance = instance_of (head_numbers 0 0 0 0 0) [] []

-- what is read as the head's lines and those behind them is read as the instance's lines
resumed_as_lines : (m : Limits) (p : Progress) → resumed p (head_lines m >>= after_head) ≡ resumed p (instance_lines m)
resumed_as_lines m (Ok c) = head_first m (suc c.line) (drop c.at c.file.now)
resumed_as_lines m (Err e) = refl

as_lines : (m : Limits) {words : Instance → List ℕ} {p r : Progress} {out : List ℕ}
    → ReadInto (head_lines m >>= after_head) words p r out → ReadInto (instance_lines m) words p r out
as_lines m {p = p} i = record { value = i.value; says = i.says ∙ resumed_as_lines m p; holds = i.holds; follows = i.follows }

module _ {m : Limits} {p : Progress} {a : List ℕ} where
  pub head_refuses : {e : LineRefused} {out : List ℕ} → HeadPromise m p (Err e) a → ReadInto (instance_file m) (instance_words m) p (Err e) out
  head_refuses {out = out} h = stopped (as_lines m {words = instance_words m} {out = out} (stopped h.into after_head no_instance)) at_end no_instance

  -- the counts in the head are those of the items and trucks
  module _ {head : LineValue Cursor HeadCounts} (h : HeadPromise m p (Ok head) a) where
    abbrev numbers : HeadNumbers
    numbers = h.into.value

    behind_head : {words : Instance → List ℕ} {r : Progress} {out : List ℕ} → ReadInto (after_head numbers) words (Ok head.next) r out
        → ReadInto (instance_lines m) words p r out
    behind_head rest = as_lines m (behind h.into after_head rest)

    pub items_refuse : (size : ℕ) {e : LineRefused} {b out : List ℕ}
        → ReadInto (times head.value.items (line item_line)) (rows size (λ ns. ns)) (Ok head.next) (Err e) b
        → ReadInto (instance_file m) (instance_words m) p (Err e) out
    items_refuse size {out = out} i =
        stopped (behind_head {words = instance_words m} {out = out} (stopped (rw h.items at i) (after_items numbers) no_instance)) at_end no_instance

    module _ {items : Cursor} {trucks : Progress} {itemSize truckSize : ℕ} {b c : List ℕ}
        (i : ReadInto (times head.value.items (line item_line)) (rows itemSize (λ ns. ns)) (Ok head.next) (Ok items) b)
        (t : ReadInto (times head.value.trucks truck_lines) (rows truckSize truck_words) (Ok items) trucks c)
        (itemsFill : itemSize ≡ 16 * m.items) (trucksFill : truckSize ≡ 160 * m.trucks) where
      abbrev all_items : ReadInto (times numbers.items (line item_line)) (rows itemSize (λ ns. ns)) (Ok head.next) (Ok items) b
      all_items = rw h.items at i

      abbrev all_trucks : ReadInto (times numbers.trucks truck_lines) (rows truckSize truck_words) (Ok items) trucks c
      all_trucks = rw h.trucks at t

      words_stand : Going trucks → a ++ (b ++ c) ≡ instance_words m (instance_of numbers all_items.value all_trucks.value)
      unfolding instance_words
      words_stand g =
          let its = all_items.value in
          let trs = all_trucks.value in
          let item_count : numbers.items ≡ length its =
          sym (times_count (line item_line) numbers.items (Ok head.next) (Ok items) its all_items.says tt)
          in
          let truck_count : numbers.trucks ≡ length trs =
          sym (times_count truck_lines numbers.trucks (Ok items) trucks trs all_trucks.says g)
          in
          let row : a ≡ head_row (head_numbers numbers.αT numbers.αI numbers.αE (length its) (length trs)) =
          h.into.holds tt ∙ ap₂ (λ (k l : ℕ). head_row (head_numbers numbers.αT numbers.αI numbers.αE k l)) item_count truck_count
          in
          rw (← itemsFill, ← trucksFill) (ap₂ (λ (x y : List ℕ). x ++ y) row (ap₂ (λ (x y : List ℕ). x ++ y) (all_items.holds tt) (all_trucks.holds g)))

      pub instance_read : (part : List ℕ) → part ≡ a ++ (b ++ c)
          → ReadInto (instance_file m) (instance_words m) p (ended_as trucks) part
      instance_read part e =
          read_to_end
          (behind_head (behind all_items (after_items numbers) (behind_last all_trucks (instance_of numbers all_items.value) (λ g. e ∙ words_stand g))))
