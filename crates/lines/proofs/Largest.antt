-- Forms that refuse the largest word, which stands for all numbers that do not fit: so a test on words is the test on numbers.
use mathlib.Core.List.{[], ◌∷◌}
use Prim.Native.Nat.{ℕ, ◌<◌}
use native.Mathlib.Omega.{arith}
use Rattle.meaning.specs.Lists.{all, between, distinct}
use Rattle.meaning.specs.Files.{◌to◌, fields_line, identifiers_line}
use Rattle.meaning.proofs.Tests.{and_reads}
use Rattle.meaning.proofs.Fields.{ranges_below, range_below}
use Rattle.meaning.specs.Table.{largest_word}
use Rattle.lines.specs.Progress.{Key, RefusesLargest}

pub refuses_identifiers : (k : Key) (most : ℕ) → RefusesLargest (identifiers_line k most)
refuses_identifiers k most ns l e = range_below _ 1 65535 ns (omega arith) ((and_reads (all (between 1 65535) ns) (distinct ns)).0 e).0

pub refuses_number : (k : Key) (low high : ℕ) → high < largest_word → RefusesLargest (fields_line k (low to high ∷ []))
refuses_number k low high h ns l e = ranges_below _ (low to high ∷ []) ns (h, tt) l e
