-- The two files written out from the model: document 01's lines, in its order.
use Rattle.std.specs.Prelude.{cond, ℕ, zero, suc, ◌+◌, ◌/◌, ◌%◌, ltb, length}
use mathlib.Core.List.{List, [], ◌∷◌, ◌++◌, map, flat_map}
use Prim.Native.String.{String}
use Rattle.meaning.specs.Text.{bytes}
use Rattle.meaning.specs.Model.{Instance, Truck, Stack}
use Rattle.meaning.specs.Reorder.{LinePair, ended, plan_of}

-- the decimal digits of n in front of `tail`, at most `most` of them
unfoldable pub digits_onto : ℕ → ℕ → List ℕ → List ℕ
digits_onto zero n tail = tail
digits_onto (suc most) n tail = let more = digits_onto most (n / 10) ((48 + n % 10) ∷ tail) in cond (ltb n 10) ((48 + n) ∷ tail) more

-- "A number is 1 to 10 decimal digits"
abbrev pub digits : ℕ → List ℕ
digits n = digits_onto 10 n []

-- "a comma between each two"
unfoldable pub comma_joined : List (List ℕ) → List ℕ
comma_joined [] = []
comma_joined (part ∷ []) = part
comma_joined (part ∷ next ∷ parts) = part ++ 44 ∷ comma_joined (next ∷ parts)

-- a line without its byte 10
unfoldable pub printed_line : String → List ℕ → List ℕ
unfolding comma_joined digits_onto
printed_line key ns = bytes key ++ comma_joined (map digits ns)

-- the lines of a truck
unfoldable pub printed_truck : Truck → List ℕ
unfolding printed_line flat_map
printed_truck t =
    ended (printed_line "truck=" t.fields)
    ++ (ended (printed_line "products=" t.products)
    ++ (ended (printed_line "suppliers=" t.suppliers)
    ++ (flat_map (λ ns. ended (printed_line "docks=" ns)) t.docks
    ++ ended (printed_line "plantdocks=" t.plant_docks))))

-- the instance file
unfoldable pub printed_instance : Instance → List ℕ
unfolding printed_line printed_truck flat_map
printed_instance i =
    ended (printed_line "transport=" (i.αT ∷ []))
    ++ (ended (printed_line "inventory=" (i.αI ∷ []))
    ++ (ended (printed_line "extra=" (i.αE ∷ []))
    ++ (ended (printed_line "items=" (length i.items ∷ []))
    ++ (ended (printed_line "trucks=" (length i.trucks ∷ []))
    ++ (flat_map (λ ns. ended (printed_line "item=" ns)) i.items
    ++ flat_map printed_truck i.trucks)))))

-- the two lines of a stack
abbrev pub printed_stack : Stack → LinePair
printed_stack s = record { stack_line = printed_line "stack=" s.fields; load_line = printed_line "load=" s.load }

-- the plan file
unfoldable pub printed_plan : List Stack → List ℕ
unfolding printed_line plan_of
printed_plan p = plan_of (printed_line "stacks=" (length p ∷ [])) (map printed_stack p)
