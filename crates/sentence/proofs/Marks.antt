-- A text is filled from one mark to the next.
use Rattle.std.proofs.Common.{◌==◌, if◌then◌else◌, ◌≡◌, ℕ, ◌<◌, ◌≢◌, suc, List, [], ◌∷◌, ◌++◌, length, refl, arith, Option, None, Some, decimal, get_or}
use Rattle.std.specs.Io.KnownBytes.{Appends, Keeps, append_known}
use Rattle.std.proofs.lemmas.Grind.{common_steps}
use Rattle.sentence.specs.Filled.{filled}

-- what was printed and what is still to be printed are as much as before, when the first part of it is printed
pub printed : (start before after : Option (List ℕ)) (whole left part rest : List ℕ) → left ≡ part ++ rest
    → Keeps (append_known start whole) (append_known before left) → Appends before after part
    → Keeps (append_known start whole) (append_known after rest)
printed None before after whole left part rest parts kept put = tt
printed (Some s) None after whole left part rest parts kept put = absurd kept
printed (Some s) (Some b) None whole left part rest parts kept put = absurd put
printed (Some s) (Some b) (Some a) whole left part rest parts kept put = grind (arith, common_steps, parts, kept, put)

-- all is printed
pub printed_whole : (start before after : Option (List ℕ)) (whole rest : List ℕ)
    → Keeps (append_known start whole) (append_known before rest) → Appends before after rest → Appends start after whole
printed_whole None before after whole rest kept put = tt
printed_whole (Some s) None after whole rest kept put = absurd kept
printed_whole (Some s) (Some b) None whole rest kept put = absurd put
printed_whole (Some s) (Some b) (Some a) whole rest kept put = grind (arith, common_steps, kept, put)

-- no byte of a text is a mark
abbrev pub IsBare : List ℕ → Type 0
IsBare text = (i : ℕ) → i < length text → get_or text i 0 ≢ 35

shorter : (c : ℕ) (text : List ℕ) → IsBare (c ∷ text) → IsBare text
shorter c text bare i h = bare (suc i) (omega arith)

-- a byte that is no mark stands for itself
bare_byte : (c : ℕ) (marked left text : List ℕ) → c ≢ 35 → left ≡ text → (if c == 35 then marked else (c ∷ left)) ≡ c ∷ text
bare_byte c marked left text other same = grind (arith, common_steps, other, same)

-- the text up to the first mark, and what stands for the mark and for what is behind it
pub filled_mark : (before after : List ℕ) (n : ℕ) (numbers : List ℕ) → IsBare before
    → filled (before ++ (35 ∷ after)) (n ∷ numbers) ≡ before ++ (decimal n ++ filled after numbers)
unfolding filled
filled_mark [] after n numbers bare = refl
filled_mark (c ∷ before) after n numbers bare =
    bare_byte c _ _ _ (bare 0 (omega arith)) (filled_mark before after n numbers (shorter c before bare))

-- the same where the numbers are used up
pub filled_bare_mark : (before after : List ℕ) → IsBare before
    → filled (before ++ (35 ∷ after)) [] ≡ before ++ filled after []
unfolding filled
filled_bare_mark [] after bare = refl
filled_bare_mark (c ∷ before) after bare =
    bare_byte c _ _ _ (bare 0 (omega arith)) (filled_bare_mark before after (shorter c before bare))

-- a text without a mark stays as it is
pub filled_bare : (text numbers : List ℕ) → IsBare text → filled text numbers ≡ text
unfolding filled
filled_bare [] numbers bare = refl
filled_bare (c ∷ text) [] bare = bare_byte c _ _ _ (bare 0 (omega arith)) (filled_bare text [] (shorter c text bare))
filled_bare (c ∷ text) (n ∷ numbers) bare =
    bare_byte c _ _ _ (bare 0 (omega arith)) (filled_bare text (n ∷ numbers) (shorter c text bare))

-- The same of a text that is cut at its first mark.
module _ (text before after : List ℕ) (cut : text ≡ before ++ (35 ∷ after)) (bare : IsBare before) where
  pub cut_mark : (numbers later : List ℕ) (n : ℕ) → numbers ≡ n ∷ later
      → filled text numbers ≡ before ++ (decimal n ++ filled after later)
  cut_mark numbers later n first = rw (cut, first) (filled_mark before after n later bare)

  pub cut_bare_mark : (numbers later : List ℕ) → length numbers ≡ 0 → later ≡ numbers
      → filled text numbers ≡ before ++ filled after later
  cut_bare_mark [] later none same = rw (cut, same) (filled_bare_mark before after bare)
  cut_bare_mark (n ∷ numbers) later none same = absurd (omega arith)
