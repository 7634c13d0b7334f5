-- What a writer leaves in the bytes that it is lent, and the bytes of a line.
use Rattle.std.specs.Prelude.{◌≡◌, List, ◌++◌, map, ℕ, length, drop}
use Rattle.meaning.specs.Reorder.{ended}
use Rattle.meaning.specs.Print.{digits, comma_joined}

-- these bytes stand at the front of the lent part and the rest of it is as before; the answer is how many they are
pub record Wrote (bytes before now : List ℕ) (n : ℕ) : Type 0 where
  pub count : n ≡ length bytes
  pub after : now ≡ bytes ++ drop (length bytes) before

-- a line with its byte 10
abbrev pub line_bytes : List ℕ → List ℕ → List ℕ
line_bytes key ns = ended (key ++ comma_joined (map digits ns))
