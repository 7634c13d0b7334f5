-- The five lines that an instance begins with, one after another, and the words of their numbers.
use mathlib.Core.Path.{◌≡◌, refl}
use mathlib.Core.List.{List, []}
use Prim.Native.Nat.{ℕ, ◌≤◌}
use Prim.Native.String.{String}
use lib.ListN.{set, replicate}
use Rattle.meaning.specs.declared.Limits.{Limits}
use Rattle.meaning.specs.Reader.{Reader, give, ◌>>=◌}
use Rattle.meaning.specs.Files.{Range, ◌to◌, number_line}
use Rattle.std.specs.Prelude.{Ok, Err, IsErrAnd}
use Rattle.lines.specs.declared.LineRefused.{LineRefused}
use Rattle.lines.specs.declared.cursor.Cursor.{Cursor}
use Rattle.lines.specs.Progress.{Progress, Going, LineResult, ReadInto}
use Rattle.lines.proofs.Follow.{behind, behind_last, stopped, handed_on}
use Rattle.instance.specs.declared.HeadCounts.{HeadCounts}
use Rattle.instance.specs.Words.{HeadNumbers, head_lines, head_row, HeadPromise}

abbrev pub head_numbers : ℕ → ℕ → ℕ → ℕ → ℕ → HeadNumbers
head_numbers αT αI αE items trucks = record { αT = αT; αI = αI; αE = αE; items = items; trucks = trucks }

-- ---- the lines from each on, behind the numbers that were read
module _ (m : Limits) where
  abbrev pub from_trucks : ℕ → ℕ → ℕ → ℕ → Reader HeadNumbers
  from_trucks αT αI αE items = number_line "trucks=" (1 to m.trucks) >>= λ trucks. give (head_numbers αT αI αE items trucks)

  abbrev pub from_items : ℕ → ℕ → ℕ → Reader HeadNumbers
  from_items αT αI αE = number_line "items=" (1 to m.items) >>= from_trucks αT αI αE

  abbrev pub from_extra : ℕ → ℕ → Reader HeadNumbers
  from_extra αT αI = number_line "extra=" (0 to 1000) >>= from_items αT αI

  abbrev pub from_inventory : ℕ → Reader HeadNumbers
  from_inventory αT = number_line "inventory=" (0 to 1000) >>= from_extra αT

-- ---- line by line: what is read from a line on is read from the first line on, and so is a refusal
-- one number, which stands in no words yet
abbrev pub Number : String → Range → Progress → Progress → Type 0
Number key range p r = ReadInto (number_line key range) (λ n. []) p r []

abbrev pub Head : Limits → Progress → Progress → List ℕ → Type 0
Head m p r out = ReadInto (head_lines m) head_row p r out

no_numbers : HeadNumbers
no_numbers = head_numbers 0 0 0 0 0

module _ (m : Limits) {p : Progress} where
  pub transport_refused : {e : LineRefused} {out : List ℕ} → Number "transport=" (0 to 1000) p (Err e) → Head m p (Err e) out
  unfolding head_lines
  transport_refused r = stopped r (from_inventory m) no_numbers

  module _ {c₁ : Cursor} (transport : Number "transport=" (0 to 1000) p (Ok c₁)) where
    behind_transport : {r : Progress} {out : List ℕ} → ReadInto (from_inventory m transport.value) head_row (Ok c₁) r out → Head m p r out
    unfolding head_lines
    behind_transport rest = behind transport (from_inventory m) rest

    pub inventory_refused : {e : LineRefused} {out : List ℕ} → Number "inventory=" (0 to 1000) (Ok c₁) (Err e) → Head m p (Err e) out
    inventory_refused r = behind_transport (stopped r (from_extra m transport.value) no_numbers)

    module _ {c₂ : Cursor} (inventory : Number "inventory=" (0 to 1000) (Ok c₁) (Ok c₂)) where
      behind_inventory : {r : Progress} {out : List ℕ} → ReadInto (from_extra m transport.value inventory.value) head_row (Ok c₂) r out → Head m p r out
      behind_inventory rest = behind_transport (behind inventory (from_extra m transport.value) rest)

      pub extra_refused : {e : LineRefused} {out : List ℕ} → Number "extra=" (0 to 1000) (Ok c₂) (Err e) → Head m p (Err e) out
      extra_refused r = behind_inventory (stopped r (from_items m transport.value inventory.value) no_numbers)

      module _ {c₃ : Cursor} (extra : Number "extra=" (0 to 1000) (Ok c₂) (Ok c₃)) where
        behind_extra : {r : Progress} {out : List ℕ} → ReadInto (from_items m transport.value inventory.value extra.value) head_row (Ok c₃) r out → Head m p r out
        behind_extra rest = behind_inventory (behind extra (from_items m transport.value inventory.value) rest)

        pub items_refused : {e : LineRefused} {out : List ℕ} → Number "items=" (1 to m.items) (Ok c₃) (Err e) → Head m p (Err e) out
        items_refused r = behind_extra (stopped r (from_trucks m transport.value inventory.value extra.value) no_numbers)

        module _ {c₄ : Cursor} (items : Number "items=" (1 to m.items) (Ok c₃) (Ok c₄)) where
          behind_items : {r : Progress} {out : List ℕ}
              → ReadInto (from_trucks m transport.value inventory.value extra.value items.value) head_row (Ok c₄) r out → Head m p r out
          behind_items rest = behind_extra (behind items (from_trucks m transport.value inventory.value extra.value) rest)

          abbrev numbers : ℕ → HeadNumbers
          numbers n = head_numbers transport.value inventory.value extra.value items.value n

          pub trucks_refused : {e : LineRefused} {out : List ℕ} → Number "trucks=" (1 to m.trucks) (Ok c₄) (Err e) → Head m p (Err e) out
          trucks_refused r = behind_items (stopped r (λ n. give (numbers n)) no_numbers)

          head_read : {r : Progress} {out : List ℕ} (trucks : Number "trucks=" (1 to m.trucks) (Ok c₄) r) → (Going r → out ≡ head_row (numbers trucks.value))
              → Head m p r out
          head_read trucks stands = behind_items (behind_last trucks numbers stands)

          -- and the counts besides
          pub head_promised : {c₅ : Cursor} {out : List ℕ} (trucks : Number "trucks=" (1 to m.trucks) (Ok c₄) (Ok c₅))
              → out ≡ head_row (numbers trucks.value) → items.value ≤ m.items → trucks.value ≤ m.trucks
              → HeadPromise m p (Ok (record { value = record { items = items.value; trucks = trucks.value }; next = c₅ })) out
          unfolding head_read behind_items behind_extra behind_inventory behind_transport head_lines
          head_promised trucks stands few_items few_trucks =
              record { into = head_read trucks (λ g. stands); items = refl; trucks = refl; items_within = few_items; trucks_within = few_trucks }

-- a refusal has no counts
pub head_refused : {m : Limits} {p : Progress} {e : LineRefused} {part : List ℕ} (r : LineResult HeadCounts) → IsErrAnd r (λ x. x ≡ e)
    → ReadInto (head_lines m) head_row p (Err e) part → HeadPromise m p r part
head_refused (Ok f) h i = absurd h
head_refused (Err x) h i = record { into = handed_on h i; items = tt; trucks = tt; items_within = tt; trucks_within = tt }

-- five words stored over zeros
pub head_words_lem : (part : List ℕ) (αT αI αE items trucks : ℕ) → part ≡ replicate 16 0
    → set (set (set (set (set part 0 αT) 1 αI) 2 αE) 3 items) 4 trucks ≡ head_row (head_numbers αT αI αE items trucks)
head_words_lem part αT αI αE items trucks e = rw e
