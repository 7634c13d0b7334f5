-- Worked cases of F-2, "A corner does not hold a pallet": which edges between two stacks are long enough. The answers were worked out apart from
-- these definitions; they are computed in proofs/Answers.
use Rattle.std.specs.Prelude.{List, [], ◌∷◌, ◌++◌, ℕ, ◌+◌, ◌*◌, take, drop}
use Prim.Native.String.{String}
use Rattle.meaning.specs.declared.Answer.{Answer}
use Rattle.meaning.specs.Example.{Lines, lines, example_instance, Edit, entry, line, edited, Case, edits}

-- ---- a load of three stacks with an item each: document 01's load with other items, in lines 6 to 8 of its instance
abbrev pub contact_instance : Lines
contact_instance =
    edited (line 4 "items=3") (take 5 example_instance)
    ++ lines (
    "item=1200,500,900,0,1,61,1,1,0,2,5,1,1,1,1,4"
    ∷ "item=1000,300,900,0,1,62,1,1,0,2,5,1,1,1,1,4"
    ∷ "item=1100,600,900,0,1,63,1,1,0,2,5,1,1,1,1,4"
    ∷ []
    )
    ++ drop 7 example_instance

-- its plan: stacks 1 and 3 side by side at the front wall, stack 2 right behind stack 1 with 100 mm in common; stack 3 is shorter and holds nothing
abbrev pub contact_plan : Lines
contact_plan = lines ("stacks=3" ∷ "stack=1,1,0,0,0,1" ∷ "load=1" ∷ "stack=2,1,0,1200,400,1" ∷ "load=2" ∷ "stack=3,1,0,0,500,1" ∷ "load=3" ∷ [])

-- the length of an item
abbrev pub long : ℕ → String → Edit
long n v = entry (5 + n) 1 v

-- its width
abbrev pub wide : ℕ → String → Edit
wide n v = entry (5 + n) 2 v

-- where a stack begins along the trailer
abbrev pub at_x : ℕ → String → Edit
at_x n v = entry (2 * n) 4 v

-- and across it
abbrev pub at_y : ℕ → String → Edit
at_y n v = entry (2 * n) 5 v

-- a stack turned widthwise
abbrev pub turned : ℕ → Edit
turned n = entry (2 * n) 6 "2"

-- what is answered where every stack is held
abbrev pub held : Answer
held = record { number = 0; first = 0; second = 0; third = 0; cost = 272000; trucks = 1 }

-- and where this one is not
abbrev pub unheld : ℕ → Answer
unheld n = record { number = 24; first = n; second = 0; third = 0; cost = 0; trucks = 0 }

abbrev pub contact_cases : List Case
contact_cases =
    -- 100 mm in common, and 99, on either side
    edits [] [] held
    ∷ edits [] (at_y 2 "401" ∷ []) (unheld 2)
    ∷ edits [] (at_y 1 "200" ∷ at_y 2 "0" ∷ at_y 3 "700" ∷ []) held
    ∷ edits [] (at_y 1 "201" ∷ at_y 2 "0" ∷ at_y 3 "701" ∷ []) (unheld 2)
    -- a corner, on either side; a gap
    ∷ edits [] (at_y 2 "500" ∷ []) (unheld 2)
    ∷ edits [] (at_y 1 "300" ∷ at_y 2 "0" ∷ at_y 3 "800" ∷ []) (unheld 2)
    ∷ edits [] (at_y 2 "501" ∷ []) (unheld 2)
    -- the stack behind is 80 wide: 80 and 79 in common
    ∷ edits (wide 2 "80" ∷ []) (at_y 2 "420" ∷ []) held
    ∷ edits (wide 2 "80" ∷ []) (at_y 2 "421" ∷ []) (unheld 2)
    -- the stack in front is
    ∷ edits (wide 1 "80" ∷ []) (at_y 2 "0" ∷ []) held
    ∷ edits (wide 1 "80" ∷ []) (at_y 2 "1" ∷ []) (unheld 2)
    -- both are narrow: 80 and 90 wide, 90 and 80 wide
    ∷ edits (wide 1 "80" ∷ wide 2 "90" ∷ []) (at_y 2 "0" ∷ []) held
    ∷ edits (wide 1 "80" ∷ wide 2 "90" ∷ []) (at_y 2 "1" ∷ []) (unheld 2)
    ∷ edits (wide 1 "90" ∷ wide 2 "80" ∷ []) (at_y 2 "10" ∷ []) held
    ∷ edits (wide 1 "90" ∷ wide 2 "80" ∷ []) (at_y 2 "11" ∷ []) (unheld 2)
    -- 99 wide: 99 and 98 in common; 100 wide: 100 and 99; 101 wide: 100 and 99
    ∷ edits (wide 2 "99" ∷ []) (at_y 2 "401" ∷ []) held
    ∷ edits (wide 2 "99" ∷ []) (at_y 2 "402" ∷ []) (unheld 2)
    ∷ edits (wide 2 "100" ∷ []) (at_y 2 "400" ∷ []) held
    ∷ edits (wide 2 "100" ∷ []) (at_y 2 "401" ∷ []) (unheld 2)
    ∷ edits (wide 2 "101" ∷ []) (at_y 2 "400" ∷ []) held
    ∷ edits (wide 2 "101" ∷ []) (at_y 2 "401" ∷ []) (unheld 2)
    -- stacks 1 and 3 end at one x: each has 60 in common with a stack 120 wide, then one 100 and the other 20; 40 each with one 80 wide
    ∷ edits (long 3 "item=1200" ∷ wide 2 "120" ∷ []) (at_y 2 "440" ∷ []) (unheld 2)
    ∷ edits (long 3 "item=1200" ∷ wide 2 "120" ∷ []) (at_y 2 "400" ∷ []) held
    ∷ edits (long 3 "item=1200" ∷ wide 2 "80" ∷ []) (at_y 2 "460" ∷ []) (unheld 2)
    -- turned, 1000 and not 80 wide across the trailer: 100 and 99 in common; 90 and not 80 wide: 90 and 89; not turned, 80 wide: 80 and 79
    ∷ edits (wide 2 "80" ∷ []) (turned 2 ∷ at_y 2 "400" ∷ []) held
    ∷ edits (wide 2 "80" ∷ []) (turned 2 ∷ at_y 2 "401" ∷ []) (unheld 2)
    ∷ edits (long 2 "item=90" ∷ wide 2 "80" ∷ []) (turned 2 ∷ at_y 2 "410" ∷ []) held
    ∷ edits (long 2 "item=90" ∷ wide 2 "80" ∷ []) (turned 2 ∷ at_y 2 "411" ∷ []) (unheld 2)
    ∷ edits (long 2 "item=90" ∷ wide 2 "80" ∷ []) (at_y 2 "420" ∷ []) held
    ∷ edits (long 2 "item=90" ∷ wide 2 "80" ∷ []) (at_y 2 "421" ∷ []) (unheld 2)
    -- the stack in front is turned, 90 and not 80 wide: 90 and 89 in common
    ∷ edits (long 1 "item=90" ∷ wide 1 "80" ∷ []) (turned 1 ∷ at_x 2 "80" ∷ at_y 2 "0" ∷ []) held
    ∷ edits (long 1 "item=90" ∷ wide 1 "80" ∷ []) (turned 1 ∷ at_x 2 "80" ∷ at_y 2 "1" ∷ []) (unheld 2)
    -- a chain of three: both contacts hold, the second is 99 mm, the first is a corner
    ∷ edits [] (at_x 3 "2200" ∷ at_y 3 "600" ∷ []) held
    ∷ edits [] (at_x 3 "2200" ∷ at_y 3 "601" ∷ []) (unheld 3)
    ∷ edits [] (at_x 3 "2200" ∷ at_y 3 "600" ∷ at_y 2 "500" ∷ []) (unheld 2)
    ∷ []
