-- Items whose words stand one behind the other, and where they clash.
use Rattle.std.proofs.Math.Option.{Option as Maybe, none, some}
use Rattle.std.specs.Prelude.{Option, None, Some, List, [], ℕ, ◌-◌, ◌*◌, take, drop}
use Rattle.meaning.specs.declared.Place.{Place}
use Rattle.meaning.specs.Lists.{chunks}
use Rattle.meaning.specs.Model.{Instance, Item}
use Rattle.meaning.specs.Places.{place}
use Rattle.ranges.specs.declared.Clash.{Clash}

-- item n, from 1
abbrev pub item_at : List ℕ → ℕ → Item
item_at ws n = take 16 (drop (16 * (n - 1)) ws)

-- so many items as an instance: code clashes are asked of one
abbrev pub items_in : ℕ → List ℕ → Instance
items_in count ws = record { αT = 0; αI = 0; αE = 0; items = chunks 16 count ws; trucks = [] }

-- the place of a code clash: "item, that one"
abbrev pub clash_place : Option Clash → Maybe Place
clash_place (Some clash) = some (place clash.item clash.first 0)
clash_place None = none
