-- The files and the lines of a truck as they are written, one part behind the other.
use mathlib.Core.Path.{◌≡◌, refl, ap}
use mathlib.Core.List.{List, [], ◌∷◌, ◌++◌, map, flat_map, append_assoc}
use Prim.Native.Nat.{ℕ}
use Prim.Native.String.{String}
use lib.ListN.{length}
use Rattle.meaning.specs.Model.{Instance, Truck, Stack}
use Rattle.meaning.specs.Reorder.{ended, pair_bytes, plan_of}
use Rattle.meaning.specs.Print.{printed_line, printed_truck, printed_instance, printed_stack, printed_plan}
use Rattle.listing.specs.Parts.{lines_of, head_bytes, stack_bytes}

pub truck_parts : (a : Truck)
    → printed_truck a
    ≡ ended (printed_line "truck=" a.fields)
    ++ (ended (printed_line "products=" a.products)
    ++ (ended (printed_line "suppliers=" a.suppliers)
    ++ (lines_of "docks=" a.docks
    ++ ended (printed_line "plantdocks=" a.plant_docks))))
unfolding printed_truck
truck_parts a = refl

-- five runs in front of others
five : (a b c d e l : List ℕ) → a ++ (b ++ (c ++ (d ++ (e ++ l)))) ≡ (a ++ (b ++ (c ++ (d ++ e)))) ++ l
five a b c d e l = simp append_assoc

pub instance_parts : (i : Instance) → printed_instance i ≡ head_bytes i ++ (lines_of "item=" i.items ++ flat_map printed_truck i.trucks)
unfolding printed_instance
instance_parts i =
    let line : String → ℕ → List ℕ = λ key n. ended (printed_line key (n ∷ [])) in
    five (line "transport=" i.αT) (line "inventory=" i.αI) (line "extra=" i.αE) (line "items=" (length i.items))
    (line "trucks=" (length i.trucks)) (lines_of "item=" i.items ++ flat_map printed_truck i.trucks)

-- the lines of the stacks, stack by stack
stacks_lines : (p : List Stack) → flat_map pair_bytes (map printed_stack p) ≡ flat_map stack_bytes p
unfolding flat_map
stacks_lines [] = refl
stacks_lines (s ∷ p) = ap (λ l. stack_bytes s ++ l) (stacks_lines p)

pub plan_parts : (p : List Stack) → printed_plan p ≡ ended (printed_line "stacks=" (length p ∷ [])) ++ flat_map stack_bytes p
unfolding printed_plan plan_of
plan_parts p = ap (λ l. ended (printed_line "stacks=" (length p ∷ [])) ++ l) (stacks_lines p)
