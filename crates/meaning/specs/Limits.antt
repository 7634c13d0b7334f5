-- Document 01: how much the two files may hold, and where each part of the working table begins.
use Rattle.std.specs.Prelude.{ℕ, ◌+◌, ◌*◌}
use Rattle.meaning.specs.declared.Limits.{Limits}

-- "items= (1..256)", "trucks= (1..16)", "stacks= (0..256)", "at most 256 entries", "at most 65,535 bytes"
abbrev pub small : Limits
small = record { items = 256; trucks = 16; stacks = 256; loads = 256; bytes = 65535 }

-- "From 16: items, 16 words each"
abbrev pub items_at : ℕ
items_at = 16

-- "From 4112: trucks, 160 each"
abbrev pub trucks_at : Limits → ℕ
trucks_at m = items_at + 16 * m.items

-- "From 6672: stacks in file order, 8 each"
abbrev pub stacks_at : Limits → ℕ
stacks_at m = trucks_at m + 160 * m.trucks

-- "From 8720: loads"
abbrev pub loads_at : Limits → ℕ
loads_at m = stacks_at m + 8 * m.stacks

-- "8,976 are named"
abbrev pub named : Limits → ℕ
named m = loads_at m + m.loads
