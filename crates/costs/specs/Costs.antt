-- The used trucks of a plan, as the cost names them.
use Rattle.std.specs.Prelude.{ℕ}
use Rattle.meaning.specs.Measures.{UsedTruck}

-- a used truck by its truck and copy
abbrev pub used_truck : ℕ → ℕ → UsedTruck
used_truck truck copy = record { truck = truck; copy = copy }
