-- What a writer has written into the bytes that it is lent.
use Rattle.std.specs.Prelude.{◌≡◌, List, ◌++◌, ℕ, ◌+◌, ◌≤◌, length, take, drop}
use Rattle.printing.specs.declared.Writer.{Writer}

-- what is written
abbrev pub written : Writer → List ℕ
written w = take w.len w.bytes.now

-- the bytes behind what is written
abbrev pub behind : Writer → List ℕ
behind w = drop w.len w.bytes.now

-- these bytes fit behind what is written
pub record HasRoom (bytes : List ℕ) (w : Writer) : Type 0 where
  pub fits : w.len + length bytes ≤ length w.bytes.now

-- of the same lent bytes these are written behind those that were, and the others are as before
pub record Appended (bytes : List ℕ) (before now : Writer) : Type 0 where
  pub same_bytes : now.bytes.ghost_name ≡ before.bytes.ghost_name
  pub count : now.len ≡ before.len + length bytes
  pub written : written now ≡ written before ++ bytes
  pub behind : behind now ≡ drop (length bytes) (behind before)
