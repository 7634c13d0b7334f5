-- The test of entries at the front of their words, by what its parts tell.
use mathlib.Core.Path.{◌≡◌, sym, ap, ap₂, ◌∙◌}
use mathlib.Core.Bool.{Bool, true, false, ◌&&◌}
use mathlib.Core.List.{List}
use Prim.Native.Nat.{ℕ, ◌-◌, ◌≤◌}
use native.Mathlib.Nat.{sub-zero}
use lib.ListN.{length, take, drop}
use Rattle.meaning.specs.Lists.{all, between, distinct}
use Rattle.meaning.proofs.Tests.{fails, and_reads, between_reads}
use Rattle.std.proofs.lemmas.List.{take_rest}
use Rattle.stored.specs.Parts.{zeros, entries_stored}

module _ (n : ℕ) (ws : List ℕ) where
  -- none, or more than there are words
  pub entries_unfit : ((1 ≤ n) × (n ≤ length ws) → ⊥) → false ≡ entries_stored n ws
  unfolding entries_stored
  entries_unfit f =
      let out = fails (between 1 (length ws) n) (λ e. f ((between_reads 1 (length ws) n).0 e)) in
      sym (ap (λ (b : Bool). b && (all (between 1 65535) (take n ws) && distinct (take n ws)) && zeros (drop n ws)) out)

  -- what the tests of the entries and of the words behind them tell, each made on the words that it was lent
  pub entries_fit : {identifiers behind : Bool} → 1 ≤ n → n ≤ length ws
      → identifiers ≡ (all (between 1 65535) (take (n - 0) ws) && distinct (take (n - 0) ws)) → behind ≡ zeros (take (length ws - n) (drop n ws))
      → (identifiers && behind) ≡ entries_stored n ws
  unfolding entries_stored
  entries_fit some few a b =
      let inside = (between_reads 1 (length ws) n).1 (some, few) in
      ap₂ ◌&&◌ (a ∙ ap (λ (j : ℕ). all (between 1 65535) (take j ws) && distinct (take j ws)) (sub-zero n)) (b ∙ ap zeros (take_rest ws n))
      ∙ sym (ap (λ (c : Bool). c && (all (between 1 65535) (take n ws) && distinct (take n ws)) && zeros (drop n ws)) inside)

  -- what the test says
  pub entries_reads : entries_stored n ws ≡ true
      → ((1 ≤ n) × (n ≤ length ws)) × ((all (between 1 65535) (take n ws) && distinct (take n ws)) ≡ true) × (zeros (drop n ws) ≡ true)
  unfolding entries_stored
  entries_reads e =
      let inside = between 1 (length ws) n in
      let identifiers = all (between 1 65535) (take n ws) && distinct (take n ws) in
      let h = (and_reads (inside && identifiers) (zeros (drop n ws))).0 e in
      let k = (and_reads inside identifiers).0 h.0 in
      ((between_reads 1 (length ws) n).0 k.0, k.1, h.1)
