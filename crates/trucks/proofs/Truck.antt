-- A truck's lines one after another, and its words from the five parts that they are read into.
use mathlib.Core.Path.{◌≡◌, refl, sym, ◌∙◌}
use mathlib.Core.List.{List, [], ◌++◌, append_assoc}
use Prim.Native.Nat.{ℕ, ◌+◌, ◌≤◌}
use native.Mathlib.Omega.{arith}
use borrow.Rule.Slice.PartMut.{put_mid}
use lib.ListN.{length, take, drop, replicate}
use Rattle.meaning.specs.Lists.{padded}
use Rattle.meaning.specs.Model.{Truck}
use Rattle.meaning.specs.Reader.{Reader, give, ◌>>=◌, line, times}
use Rattle.meaning.specs.Files.{truck_line, products_line, suppliers_line, docks_line, plant_docks_line, truck_lines}
use Rattle.meaning.specs.Table.{counted_words, truck_words}
use Rattle.std.specs.Prelude.{Ok, Err}
use Rattle.lines.specs.declared.LineRefused.{LineRefused}
use Rattle.lines.specs.declared.cursor.Cursor.{Cursor}
use Rattle.lines.specs.declared.LineValue.{LineValue}
use Rattle.lines.specs.Progress.{Progress, ReadInto, ReadEntries}
use Rattle.lines.proofs.Follow.{behind, behind_last, stopped}
use Rattle.trucks.specs.Rows.{dock_words}
use Rattle.trucks.proofs.Repeat.{Front, front_cleared, front_back}

-- ---- what is left to read after each line, with what was read before it
abbrev truck_of : List ℕ → List ℕ → List ℕ → List (List ℕ) → List ℕ → Truck
truck_of f p s d l = record { fields = f; products = p; suppliers = s; docks = d; plant_docks = l }

abbrev after_docks : List ℕ → List ℕ → List ℕ → List (List ℕ) → Reader Truck
after_docks f p s d = line plant_docks_line >>= λ l. give (truck_of f p s d l)

abbrev after_suppliers : List ℕ → List ℕ → List ℕ → Reader Truck
after_suppliers f p s = times (length s) (line docks_line) >>= after_docks f p s

abbrev after_products : List ℕ → List ℕ → Reader Truck
after_products f p = line suppliers_line >>= after_suppliers f p

abbrev after_row : List ℕ → Reader Truck
after_row f = line products_line >>= after_products f

-- ---- the words of the five parts, one behind the other
abbrev part_words : Truck → List ℕ
part_words t =
    (((t.fields ++ counted_words 32 t.products) ++ counted_words 8 t.suppliers) ++ dock_words t.docks) ++ counted_words 8 t.plant_docks

regroup : (f p s d e l z : List ℕ) → ((((f ++ p) ++ s) ++ (d ++ e)) ++ l) ++ z ≡ f ++ (p ++ (s ++ (d ++ (e ++ (l ++ z)))))
regroup f p s d e l z = simp append_assoc

parts_words : (t : Truck) → length (part_words t) ≡ 143 → padded 160 (part_words t) ≡ truck_words t
unfolding truck_words
parts_words t wide = rw (wide, regroup) refl

-- ---- line by line: what is read from a line on is read from the truck's first line on, and so is a refusal
no_truck : Truck
no_truck = truck_of [] [] [] [] []

module _ {p : Progress} where
  pub row_refused : {e : LineRefused} {w₁ out : List ℕ} → ReadInto (line truck_line) (λ ns. ns) p (Err e) w₁ → ReadInto truck_lines truck_words p (Err e) out
  unfolding truck_lines
  row_refused r = stopped r after_row no_truck

  module _ {row : Cursor} {w₁ : List ℕ} (readRow : ReadInto (line truck_line) (λ ns. ns) p (Ok row) w₁) where
    behind_row : {r : Progress} {out : List ℕ} → ReadInto (after_row readRow.value) truck_words (Ok row) r out → ReadInto truck_lines truck_words p r out
    unfolding truck_lines
    behind_row rest = behind readRow after_row rest

    pub products_refused : {e : LineRefused} {w₂ out : List ℕ} → ReadEntries (line products_line) (counted_words 32) (Ok row) (Err e) w₂
        → ReadInto truck_lines truck_words p (Err e) out
    products_refused r = behind_row (stopped r.into (after_products readRow.value) no_truck)

    module _ {products : LineValue Cursor ℕ} {w₂ : List ℕ} (readProducts : ReadEntries (line products_line) (counted_words 32) (Ok row) (Ok products) w₂) where
      behind_products : {r : Progress} {out : List ℕ} → ReadInto (after_products readRow.value readProducts.into.value) truck_words (Ok products.next) r out
          → ReadInto truck_lines truck_words p r out
      behind_products rest = behind_row (behind readProducts.into (after_products readRow.value) rest)

      pub suppliers_refused : {e : LineRefused} {w₃ out : List ℕ} → ReadEntries (line suppliers_line) (counted_words 8) (Ok products.next) (Err e) w₃
          → ReadInto truck_lines truck_words p (Err e) out
      suppliers_refused r = behind_products (stopped r.into (after_suppliers readRow.value readProducts.into.value) no_truck)

      module _ {suppliers : LineValue Cursor ℕ} {w₃ : List ℕ}
          (readSuppliers : ReadEntries (line suppliers_line) (counted_words 8) (Ok products.next) (Ok suppliers) w₃) where
        behind_suppliers : {r : Progress} {out : List ℕ}
            → ReadInto (after_suppliers readRow.value readProducts.into.value readSuppliers.into.value) truck_words (Ok suppliers.next) r out
            → ReadInto truck_lines truck_words p r out
        behind_suppliers rest = behind_products (behind readSuppliers.into (after_suppliers readRow.value readProducts.into.value) rest)

        -- as many dock lines as suppliers
        each_supplier : {r : Progress} {w₄ : List ℕ} → ReadInto (times suppliers.value (line docks_line)) dock_words (Ok suppliers.next) r w₄
            → ReadInto (times (length readSuppliers.into.value) (line docks_line)) dock_words (Ok suppliers.next) r w₄
        each_supplier r = rw (sym readSuppliers.count) r

        pub docks_refused : {e : LineRefused} {w₄ out : List ℕ}
            → ReadInto (times suppliers.value (line docks_line)) dock_words (Ok suppliers.next) (Err e) w₄ → ReadInto truck_lines truck_words p (Err e) out
        docks_refused r =
            behind_suppliers (stopped (each_supplier r) (after_docks readRow.value readProducts.into.value readSuppliers.into.value) no_truck)

        module _ {docks : Cursor} {w₄ : List ℕ} (readDocks : ReadInto (times suppliers.value (line docks_line)) dock_words (Ok suppliers.next) (Ok docks) w₄) where
          abbrev truck : List ℕ → Truck
          truck l = truck_of readRow.value readProducts.into.value readSuppliers.into.value (each_supplier readDocks).value l

          behind_docks : {r : Progress} {out : List ℕ}
              → ReadInto (line plant_docks_line >>= λ l. give (truck l)) truck_words (Ok docks) r out → ReadInto truck_lines truck_words p r out
          behind_docks rest =
              behind_suppliers (behind (each_supplier readDocks) (after_docks readRow.value readProducts.into.value readSuppliers.into.value) rest)

          pub plant_docks_refused : {e : LineRefused} {w₅ out : List ℕ} → ReadEntries (line plant_docks_line) (counted_words 8) (Ok docks) (Err e) w₅
              → ReadInto truck_lines truck_words p (Err e) out
          plant_docks_refused r = behind_docks (stopped r.into (λ l. give (truck l)) no_truck)

          -- the words stand one behind the other
          pub truck_read : {plant_docks : LineValue Cursor ℕ} {w₅ out : List ℕ}
              → ReadEntries (line plant_docks_line) (counted_words 8) (Ok docks) (Ok plant_docks) w₅ → Front 160 143 ((((([] ++ w₁) ++ w₂) ++ w₃) ++ w₄) ++ w₅) out
              → ReadInto truck_lines truck_words p (Ok plant_docks.next) out
          truck_read read front = behind_docks (behind_last read.into truck (λ g.
              let filled =
              rw (readRow.holds tt, readProducts.into.holds tt, readSuppliers.into.holds tt, (each_supplier readDocks).holds tt, read.into.holds g) at front
              in
              filled.stands ∙ parts_words (truck read.into.value) filled.wide))

-- ---- the truck's words while they are filled: after each part, what is lent next has its size
abbrev pub Upto : ℕ → Type 0
Upto at = (ws : List ℕ) × (out : List ℕ) × Front 160 at ws out

abbrev pub with_part : {at : ℕ} (u : Upto at) (k : ℕ) (run : List ℕ) → at + k ≤ 160 → length run ≡ length (take k (drop at u.1)) → Upto (at + k)
with_part u k run room kept = (_, _, front_back u.2 k run room kept)

module _ (part : List ℕ) {zeros : List ℕ} (whole : length part ≡ 160) (cleared : zeros ≡ replicate (length (take 160 (drop 0 part))) 0)
    (w₁ : List ℕ) (k₁ : length w₁ ≡ length (take 20 (drop 0 (put_mid 0 160 part zeros)))) where
  abbrev pub upto_row : Upto 20
  upto_row = with_part (_, _, front_cleared 160 part zeros whole cleared) 20 w₁ (omega arith) k₁

  module _ (w₂ : List ℕ) (k₂ : length w₂ ≡ length (take 33 (drop 20 upto_row.1))) where
    abbrev pub upto_products : Upto 53
    upto_products = with_part upto_row 33 w₂ (omega arith) k₂

    module _ (w₃ : List ℕ) (k₃ : length w₃ ≡ length (take 9 (drop 53 upto_products.1))) where
      abbrev pub upto_suppliers : Upto 62
      upto_suppliers = with_part upto_products 9 w₃ (omega arith) k₃

      module _ (w₄ : List ℕ) (k₄ : length w₄ ≡ length (take 72 (drop 62 upto_suppliers.1))) where
        abbrev pub upto_docks : Upto 134
        upto_docks = with_part upto_suppliers 72 w₄ (omega arith) k₄
