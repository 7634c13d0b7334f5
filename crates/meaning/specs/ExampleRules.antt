-- Worked cases of the rules, on one load in which no two numbers of a line are alike and which stands on the edge of nearly every rule. The
-- answers were worked out apart from these definitions; they are computed in proofs/Answers.
use Rattle.std.specs.Prelude.{List, [], ◌∷◌, ℕ, ◌+◌}
use Prim.Native.String.{String}
use Rattle.meaning.specs.Example.{Lines, lines, Edit, entry, line, Case, edits}

-- ---- the uneven load: its instance, items in lines 6 to 13, truck 1 from line 14 and truck 2 from line 20
abbrev pub uneven_instance : Lines
uneven_instance =
    lines (
    "transport=7"
    ∷ "inventory=3"
    ∷ "extra=250"
    ∷ "items=8"
    ∷ "trucks=2"
    ∷ "item=1400,760,860,20,480,72,5,216,0,16,31,83,91,52,37,8"
    ∷ "item=1250,800,600,60,260,71,3,213,1,20,30,83,95,57,36,9"
    ∷ "item=1250,800,580,85,240,71,2,217,2,19,22,83,95,57,38,6"
    ∷ "item=1250,800,530,75,310,71,3,211,0,17,20,83,92,57,36,4"
    ∷ "item=1150,640,720,50,530,74,6,219,0,14,28,86,97,57,32,12"
    ∷ "item=1250,800,700,45,420,71,3,215,0,13,24,83,92,57,36,5"
    ∷ "item=1001,999,1010,35,989,73,4,218,2,12,26,83,93,51,34,10"
    ∷ "item=1250,800,640,90,350,71,2,212,0,11,27,83,95,57,38,11"
    ∷ "truck=5200,2300,1900,530,86,23,450,0,1100,130,6110,3640,1130,2860,3950,4350,2980,1240,1163,4503"
    ∷ "products=214,219"
    ∷ "suppliers=52,57"
    ∷ "docks=31,39"
    ∷ "docks=38,32"
    ∷ "plantdocks=95,97"
    ∷ "truck=3450,1980,1695,2060,83,20,570,1,990,170,5240,3260,930,2530,3060,1870,1390,620,1750,5400"
    ∷ "products=213,215,211,217,212,216,218"
    ∷ "suppliers=54,51,57,52"
    ∷ "docks=33,36"
    ∷ "docks=34"
    ∷ "docks=36,35,38"
    ∷ "docks=35,37"
    ∷ "plantdocks=93,92,95,91"
    ∷ []
    )

-- its plan: stacks 31, 12 and 40 one behind the other on truck 2 as an extra, stack 25 on truck 2 as planned, stack 17 on truck 1
abbrev pub uneven_plan : Lines
uneven_plan =
    lines (
    "stacks=5"
    ∷ "stack=31,2,5,0,30,1"
    ∷ "load=6,2,4"
    ∷ "stack=12,2,5,1250,730,2"
    ∷ "load=8,3"
    ∷ "stack=40,2,5,2050,70,1"
    ∷ "load=1"
    ∷ "stack=25,2,0,0,200,2"
    ∷ "load=7"
    ∷ "stack=17,1,0,0,60,1"
    ∷ "load=5"
    ∷ []
    )

-- an entry of an item's line
abbrev pub of_item : ℕ → ℕ → String → Edit
of_item n k v = entry (5 + n) k v

-- of the line of truck 1
abbrev pub of_truck1 : ℕ → String → Edit
of_truck1 k v = entry 14 k v

-- of the line of truck 2
abbrev pub of_truck2 : ℕ → String → Edit
of_truck2 k v = entry 20 k v

-- of the line of stack 31
abbrev pub of_stack31 : ℕ → String → Edit
of_stack31 k v = entry 2 k v

-- of the line of stack 12
abbrev pub of_stack12 : ℕ → String → Edit
of_stack12 k v = entry 4 k v

-- of the line of stack 40
abbrev pub of_stack40 : ℕ → String → Edit
of_stack40 k v = entry 6 k v

-- of the line of stack 25
abbrev pub of_stack25 : ℕ → String → Edit
of_stack25 k v = entry 8 k v

-- of the line of stack 17
abbrev pub of_stack17 : ℕ → String → Edit
of_stack17 k v = entry 10 k v

-- ---- each rule broken alone, and not broken where it is met exactly
abbrev pub rule_cases : List Case
rule_cases =
    -- the load as it stands. Truck 2 meets all its limits but the axles' exactly; truck 1 both axles' and its load limit. The first departure of truck 1 has
    -- no stack on: it would be too heavy for the rear axle, and does not count
    edits [] [] (record { number = 0; first = 0; second = 0; third = 0; cost = 4808500; trucks = 3 })
    -- cost: without αT, without αI, and with truck 1 as an extra
    ∷ edits (line 1 "transport=0" ∷ []) [] (record { number = 0; first = 0; second = 0; third = 0; cost = 1221000; trucks = 3 })
    ∷ edits (line 2 "inventory=0" ∷ []) [] (record { number = 0; first = 0; second = 0; third = 0; cost = 3587500; trucks = 3 })
    ∷ edits [] (of_stack17 3 "99" ∷ []) (record { number = 0; first = 0; second = 0; third = 0; cost = 5036000; trucks = 3 })
    -- 9: an item left out; two and three times in one stack, in place of others
    ∷ edits [] (line 5 "load=8" ∷ []) (record { number = 9; first = 3; second = 0; third = 0; cost = 0; trucks = 0 })
    ∷ edits [] (line 5 "load=3,3" ∷ []) (record { number = 9; first = 3; second = 2; third = 0; cost = 0; trucks = 0 })
    ∷ edits [] (line 3 "load=2,2,2" ∷ []) (record { number = 9; first = 2; second = 3; third = 0; cost = 0; trucks = 0 })
    -- 10: another plant of truck 2. The lowest stack is neither the first nor the last of the file, its lowest item not the first of the load
    ∷ edits (of_truck2 5 "84" ∷ []) [] (record { number = 10; first = 12; second = 3; third = 0; cost = 0; trucks = 0 })
    -- 11: two products less
    ∷ edits (line 21 "products=213,217,212,216,218" ∷ []) [] (record { number = 11; first = 31; second = 4; third = 0; cost = 0; trucks = 0 })
    -- 12: a supplier of truck 2 alone, for the item on truck 1; it has no docks there either (14)
    ∷ edits (of_item 5 14 "51" ∷ []) [] (record { number = 12; first = 17; second = 5; third = 0; cost = 0; trucks = 0 })
    -- 13: a day late, a day early
    ∷ edits (of_truck2 6 "21" ∷ []) [] (record { number = 13; first = 31; second = 4; third = 0; cost = 0; trucks = 0 })
    ∷ edits (of_truck2 6 "19" ∷ []) [] (record { number = 13; first = 31; second = 2; third = 0; cost = 0; trucks = 0 })
    -- 14: a dock of another supplier; a plant dock of truck 1 alone
    ∷ edits (of_item 1 15 "33" ∷ []) [] (record { number = 14; first = 40; second = 1; third = 0; cost = 0; trucks = 0 })
    ∷ edits (of_item 1 13 "97" ∷ []) [] (record { number = 14; first = 40; second = 1; third = 0; cost = 0; trucks = 0 })
    -- 15: supplier (with a dock of the same number), code, maximal stackability and supplier dock of an upper item; a plant of its own would be 10
    ∷ edits (of_item 2 14 "54" ∷ []) [] (record { number = 15; first = 31; second = 2; third = 0; cost = 0; trucks = 0 })
    ∷ edits (of_item 4 6 "77" ∷ []) [] (record { number = 15; first = 31; second = 4; third = 0; cost = 0; trucks = 0 })
    ∷ edits (of_item 2 7 "4" ∷ []) [] (record { number = 15; first = 31; second = 2; third = 0; cost = 0; trucks = 0 })
    ∷ edits (of_item 4 15 "38" ∷ []) [] (record { number = 15; first = 31; second = 4; third = 0; cost = 0; trucks = 0 })
    -- 16: two docks without the flag; two not consecutive; three. Two that are consecutive the other way round are allowed
    ∷ edits (of_truck2 8 "0" ∷ []) [] (record { number = 16; first = 31; second = 2; third = 0; cost = 0; trucks = 0 })
    ∷ edits (line 27 "plantdocks=92,93,95,91" ∷ []) [] (record { number = 16; first = 31; second = 2; third = 0; cost = 0; trucks = 0 })
    ∷ edits (of_item 4 13 "93" ∷ []) [] (record { number = 16; first = 31; second = 3; third = 0; cost = 0; trucks = 0 })
    ∷ edits (line 27 "plantdocks=93,95,92,91" ∷ []) [] (record { number = 0; first = 0; second = 0; third = 0; cost = 4808500; trucks = 3 })
    -- 17: two docks for stack 12 too; with another code for it that is allowed
    ∷ edits (of_item 3 13 "92" ∷ []) [] (record { number = 17; first = 12; second = 31; third = 0; cost = 0; trucks = 0 })
    ∷ edits (of_item 3 13 "92" ∷ of_item 3 6 "75" ∷ of_item 8 6 "75" ∷ []) [] (record { number = 0; first = 0; second = 0; third = 0; cost = 4808500; trucks = 3 })
    -- 18: all three items of stack 31 forced widthwise; the upper item of stack 12 forced lengthwise
    ∷ edits (of_item 6 9 "2" ∷ of_item 2 9 "2" ∷ of_item 4 9 "2" ∷ []) [] (record { number = 18; first = 31; second = 2; third = 0; cost = 0; trucks = 0 })
    ∷ edits (of_item 3 9 "1" ∷ []) [] (record { number = 18; first = 12; second = 3; third = 0; cost = 0; trucks = 0 })
    -- 19: a kilogram less above the bottom item
    ∷ edits (of_truck2 7 "569" ∷ []) [] (record { number = 19; first = 31; second = 570; third = 0; cost = 0; trucks = 0 })
    -- 20: one item too many
    ∷ edits (of_item 3 7 "1" ∷ of_item 8 7 "1" ∷ []) [] (record { number = 20; first = 12; second = 2; third = 0; cost = 0; trucks = 0 })
    -- 21: stacks 25 and 31 too dense; item 7 with 990 kg on 0.999999 square metres
    ∷ edits (of_truck2 9 "989" ∷ []) [] (record { number = 21; first = 25; second = 989; third = 0; cost = 0; trucks = 0 })
    ∷ edits (of_item 7 5 "990" ∷ []) [] (record { number = 21; first = 25; second = 990; third = 0; cost = 0; trucks = 0 })
    -- 22: length, width, height, each by a millimetre ("taking the top item's nesting for the bottom's" would refuse the load itself); then two sides of
    -- stack 12
    ∷ edits (of_truck2 1 "truck=3449" ∷ []) [] (record { number = 22; first = 40; second = 1; third = 0; cost = 0; trucks = 0 })
    ∷ edits (of_truck2 2 "1979" ∷ []) [] (record { number = 22; first = 12; second = 2; third = 0; cost = 0; trucks = 0 })
    ∷ edits (of_truck2 3 "1694" ∷ []) [] (record { number = 22; first = 31; second = 3; third = 0; cost = 0; trucks = 0 })
    ∷ edits (of_truck2 1 "truck=2049" ∷ of_truck2 2 "1979" ∷ []) [] (record { number = 22; first = 12; second = 1; third = 0; cost = 0; trucks = 0 })
    ∷ edits (of_truck2 2 "1979" ∷ of_truck2 3 "1134" ∷ []) [] (record { number = 22; first = 12; second = 2; third = 0; cost = 0; trucks = 0 })
    -- 23: stacks 31 and 12 side by side at one x, and a narrow stack behind a wide one; 31 and 12 a millimetre too near, which is not seen by
    -- "dropping P2 when two x are equal"; three stacks over one another
    ∷ edits (of_truck2 2 "2080" ∷ []) (of_stack12 4 "0" ∷ of_stack12 5 "830" ∷ of_stack40 4 "800" ∷ of_stack40 5 "900" ∷ []) (record { number = 0; first = 0; second = 0; third = 0; cost = 4808500; trucks = 3 })
    ∷ edits (of_truck2 2 "2080" ∷ []) (of_stack12 4 "0" ∷ of_stack12 5 "829" ∷ of_stack40 4 "800" ∷ of_stack40 5 "900" ∷ []) (record { number = 23; first = 12; second = 31; third = 0; cost = 0; trucks = 0 })
    ∷ edits [] (of_stack12 4 "0" ∷ of_stack12 5 "30" ∷ of_stack40 4 "0" ∷ []) (record { number = 23; first = 12; second = 31; third = 0; cost = 0; trucks = 0 })
    -- 24: the load as it stands has two contacts of 100 mm ("A corner does not hold a pallet"; more in ExampleContacts). A millimetre less, on either
    -- side; behind the end of the stack in front; there with a stack behind it, which does not hold it; behind a stack of the other copy alone
    ∷ edits [] (of_stack31 5 "29" ∷ []) (record { number = 24; first = 12; second = 0; third = 0; cost = 0; trucks = 0 })
    ∷ edits [] (of_stack40 5 "69" ∷ []) (record { number = 24; first = 40; second = 0; third = 0; cost = 0; trucks = 0 })
    ∷ edits (of_truck2 1 "truck=3451" ∷ []) (of_stack40 4 "2051" ∷ []) (record { number = 24; first = 40; second = 0; third = 0; cost = 0; trucks = 0 })
    ∷ edits (of_truck2 1 "truck=3451" ∷ []) (of_stack12 4 "1251" ∷ of_stack40 4 "2051" ∷ []) (record { number = 24; first = 12; second = 0; third = 0; cost = 0; trucks = 0 })
    ∷ edits [] (of_stack25 4 "1250" ∷ []) (record { number = 24; first = 25; second = 0; third = 0; cost = 0; trucks = 0 })
    -- 25 (1): stack 40 of the first supplier. (2): supplier docks the other way round
    ∷ edits (of_item 1 14 "54" ∷ of_item 1 15 "33" ∷ []) [] (record { number = 25; first = 40; second = 12; third = 0; cost = 0; trucks = 0 })
    ∷ edits (line 25 "docks=38,35,36" ∷ []) [] (record { number = 25; first = 12; second = 31; third = 0; cost = 0; trucks = 0 })
    -- 25 (3): one supplier dock, and plant docks 92 and 95 before 95 with the stacks exchanged, then 95 before 92; all of them 95; one dock number of two
    -- suppliers
    ∷ edits (of_item 3 15 "36" ∷ of_item 8 15 "36" ∷ []) (of_stack31 4 "800" ∷ of_stack12 4 "0" ∷ [])
    (record { number = 25; first = 31; second = 12; third = 0; cost = 0; trucks = 0 })
    ∷ edits (of_item 3 15 "36" ∷ of_item 8 15 "36" ∷ line 27 "plantdocks=93,95,92,91" ∷ []) [] (record { number = 25; first = 12; second = 31; third = 0; cost = 0; trucks = 0 })
    ∷ edits (of_item 3 15 "36" ∷ of_item 8 15 "36" ∷ of_item 4 13 "95" ∷ of_item 6 13 "95" ∷ []) []
    (record { number = 0; first = 0; second = 0; third = 0; cost = 4808500; trucks = 3 })
    ∷ edits (of_item 1 15 "35" ∷ of_item 3 15 "35" ∷ of_item 8 15 "35" ∷ line 27 "plantdocks=93,91,92,95" ∷ []) []
    (record { number = 0; first = 0; second = 0; third = 0; cost = 4808500; trucks = 3 })
    -- 26: a kilogram too much, on truck 2 as an extra, and on truck 1 as well
    ∷ edits (of_truck2 4 "2059" ∷ []) [] (record { number = 26; first = 2; second = 5; third = 0; cost = 0; trucks = 0 })
    ∷ edits (of_truck1 4 "529" ∷ of_truck2 4 "2059" ∷ []) [] (record { number = 26; first = 1; second = 0; third = 0; cost = 0; trucks = 0 })
    -- 27: truck 1, missed by a kilogram. The middle axle of truck 2 bears 4232.0002 kg at departure 3 of copy 5 ("dividing before comparing"), less at
    -- departure 4 ("testing axles at the last departure only") and 4077.1 kg at copy 0
    ∷ edits (of_truck1 20 "4502" ∷ []) [] (record { number = 27; first = 1; second = 0; third = 2; cost = 0; trucks = 0 })
    ∷ edits (of_truck2 20 "4232" ∷ []) [] (record { number = 27; first = 2; second = 5; third = 3; cost = 0; trucks = 0 })
    ∷ edits (of_truck2 20 "4100" ∷ []) [] (record { number = 27; first = 2; second = 5; third = 3; cost = 0; trucks = 0 })
    ∷ edits (of_truck2 20 "4000" ∷ []) [] (record { number = 27; first = 2; second = 0; third = 2; cost = 0; trucks = 0 })
    -- 28: truck 1, missed by a kilogram. The rear axle of truck 2 bears 1659.8 kg at departure 4 of copy 5, where stack 40 lies behind it; with a kilogram more
    -- both axles hold
    ∷ edits (of_truck1 19 "1162" ∷ []) [] (record { number = 28; first = 1; second = 0; third = 2; cost = 0; trucks = 0 })
    ∷ edits (of_truck2 19 "1660" ∷ of_truck2 20 "4233" ∷ []) [] (record { number = 0; first = 0; second = 0; third = 0; cost = 4808500; trucks = 3 })
    ∷ edits (of_truck2 19 "1659" ∷ []) [] (record { number = 28; first = 2; second = 5; third = 4; cost = 0; trucks = 0 })
    ∷ []

-- ---- two rules broken at once: the answer is that of the one that stands first in the table
abbrev pub rule_pairs : List Case
rule_pairs =
    -- 9 and 10: item 5 in two stacks, one of them on truck 2
    edits [] (line 9 "load=7,5" ∷ []) (record { number = 9; first = 5; second = 2; third = 0; cost = 0; trucks = 0 })
    -- 10 and 11
    ∷ edits (of_truck2 5 "84" ∷ line 21 "products=213,215,211,217,212,218" ∷ []) [] (record { number = 10; first = 12; second = 3; third = 0; cost = 0; trucks = 0 })
    -- 11 and 12
    ∷ edits (line 21 "products=213,215,211,217,212,218" ∷ of_item 3 14 "59" ∷ []) [] (record { number = 11; first = 40; second = 1; third = 0; cost = 0; trucks = 0 })
    -- 12 and 13
    ∷ edits (of_item 5 14 "51" ∷ of_truck2 6 "19" ∷ []) [] (record { number = 12; first = 17; second = 5; third = 0; cost = 0; trucks = 0 })
    -- 13 and 14
    ∷ edits (of_truck2 6 "21" ∷ of_item 3 15 "34" ∷ []) [] (record { number = 13; first = 31; second = 4; third = 0; cost = 0; trucks = 0 })
    -- 14 and 15
    ∷ edits (of_item 1 13 "97" ∷ of_item 3 7 "7" ∷ []) [] (record { number = 14; first = 40; second = 1; third = 0; cost = 0; trucks = 0 })
    -- 15 and 16
    ∷ edits (of_item 2 7 "4" ∷ of_truck2 8 "0" ∷ []) [] (record { number = 15; first = 31; second = 2; third = 0; cost = 0; trucks = 0 })
    -- 16 and 17
    ∷ edits (of_truck2 8 "0" ∷ of_item 3 13 "92" ∷ []) [] (record { number = 16; first = 12; second = 2; third = 0; cost = 0; trucks = 0 })
    -- 17 and 18
    ∷ edits (of_item 3 13 "92" ∷ of_item 3 9 "1" ∷ []) [] (record { number = 17; first = 12; second = 31; third = 0; cost = 0; trucks = 0 })
    -- 18 and 19
    ∷ edits (of_item 3 9 "1" ∷ of_truck2 7 "569" ∷ []) [] (record { number = 18; first = 12; second = 3; third = 0; cost = 0; trucks = 0 })
    -- 19 and 20
    ∷ edits (of_truck2 7 "569" ∷ of_item 3 7 "1" ∷ of_item 8 7 "1" ∷ []) [] (record { number = 19; first = 31; second = 570; third = 0; cost = 0; trucks = 0 })
    -- 20 and 21
    ∷ edits (of_item 3 7 "1" ∷ of_item 8 7 "1" ∷ of_truck2 9 "989" ∷ []) [] (record { number = 20; first = 12; second = 2; third = 0; cost = 0; trucks = 0 })
    -- 21 and 22
    ∷ edits (of_truck2 9 "989" ∷ of_truck2 2 "1979" ∷ []) [] (record { number = 21; first = 25; second = 989; third = 0; cost = 0; trucks = 0 })
    -- 22 and 23
    ∷ edits (of_truck2 1 "truck=3449" ∷ []) (of_stack12 4 "0" ∷ []) (record { number = 22; first = 40; second = 1; third = 0; cost = 0; trucks = 0 })
    -- 23 and 24
    ∷ edits [] (of_stack12 4 "0" ∷ []) (record { number = 23; first = 12; second = 31; third = 0; cost = 0; trucks = 0 })
    -- 24 and 25
    ∷ edits (line 25 "docks=38,35,36" ∷ []) (of_stack40 5 "69" ∷ []) (record { number = 24; first = 40; second = 0; third = 0; cost = 0; trucks = 0 })
    -- 25 and 26
    ∷ edits (line 25 "docks=38,35,36" ∷ of_truck1 4 "529" ∷ []) [] (record { number = 25; first = 12; second = 31; third = 0; cost = 0; trucks = 0 })
    -- 26 and 27
    ∷ edits (of_truck2 4 "2059" ∷ of_truck1 20 "4502" ∷ []) [] (record { number = 26; first = 2; second = 5; third = 0; cost = 0; trucks = 0 })
    -- 27 and 28
    ∷ edits (of_truck2 20 "4232" ∷ of_truck1 19 "1162" ∷ []) [] (record { number = 27; first = 2; second = 5; third = 3; cost = 0; trucks = 0 })
    -- 22 and 26
    ∷ edits (of_truck2 1 "truck=3449" ∷ of_truck1 4 "529" ∷ []) [] (record { number = 22; first = 40; second = 1; third = 0; cost = 0; trucks = 0 })
    ∷ []

-- ---- code clashes, and numbers that stand in one of several lines
abbrev pub clash_cases : List Case
clash_cases =
    -- 6: item 6 differs in length alone, in width alone, from item 2; items 4 and 8 differ; item 2 itself is another
    edits (of_item 6 1 "item=1251" ∷ []) [] (record { number = 6; first = 6; second = 2; third = 0; cost = 0; trucks = 0 })
    ∷ edits (of_item 6 2 "799" ∷ []) [] (record { number = 6; first = 6; second = 2; third = 0; cost = 0; trucks = 0 })
    ∷ edits (of_item 8 2 "799" ∷ of_item 4 1 "item=1251" ∷ []) [] (record { number = 6; first = 4; second = 2; third = 0; cost = 0; trucks = 0 })
    ∷ edits (of_item 2 2 "801" ∷ []) [] (record { number = 6; first = 3; second = 2; third = 0; cost = 0; trucks = 0 })
    -- 8: the number of the stack before, of the first stack; a truck above the count, an item above it
    ∷ edits [] (of_stack12 1 "stack=31" ∷ []) (record { number = 8; first = 4; second = 0; third = 0; cost = 0; trucks = 0 })
    ∷ edits [] (of_stack17 1 "stack=31" ∷ []) (record { number = 8; first = 10; second = 0; third = 0; cost = 0; trucks = 0 })
    ∷ edits [] (of_stack31 2 "3" ∷ []) (record { number = 8; first = 2; second = 0; third = 0; cost = 0; trucks = 0 })
    ∷ edits [] (line 3 "load=6,2,9" ∷ []) (record { number = 8; first = 3; second = 0; third = 0; cost = 0; trucks = 0 })
    ∷ []
