-- The model: what an instance file and a plan file say. The numbers of a line stand as the line has them, and its fields go by the names
-- of the paper (document 000). The field numbers stand in this file alone.
use Rattle.std.specs.Prelude.{List, [], ℕ, ◌-◌, get_or}

-- ---- an item: the 16 fields of its line
abbrev pub Item : Type 0
Item = List ℕ

-- length, in millimetres
abbrev pub IL : Item → ℕ
IL a = get_or a 0 0

-- width
abbrev pub IW : Item → ℕ
IW a = get_or a 1 0

-- height
abbrev pub IH : Item → ℕ
IH a = get_or a 2 0

-- nesting height, the paper's IH with a hat: how deep the item sinks into the one below
abbrev pub nesting : Item → ℕ
nesting a = get_or a 3 0

-- weight, in kilograms
abbrev pub IM : Item → ℕ
IM a = get_or a 4 0

-- stackability code
abbrev pub IS : Item → ℕ
IS a = get_or a 5 0

-- maximal stackability
abbrev pub ISM : Item → ℕ
ISM a = get_or a 6 0

-- product
abbrev pub IR : Item → ℕ
IR a = get_or a 7 0

-- forced orientation: 0 none, 1 lengthwise, 2 widthwise
abbrev pub IO : Item → ℕ
IO a = get_or a 8 0

-- earliest day
abbrev pub IDE : Item → ℕ
IDE a = get_or a 9 0

-- latest day
abbrev pub IDL : Item → ℕ
IDL a = get_or a 10 0

-- plant
abbrev pub IP : Item → ℕ
IP a = get_or a 11 0

-- plant dock
abbrev pub IG : Item → ℕ
IG a = get_or a 12 0

-- supplier
abbrev pub IU : Item → ℕ
IU a = get_or a 13 0

-- supplier dock
abbrev pub IK : Item → ℕ
IK a = get_or a 14 0

-- daily cost
abbrev pub IC : Item → ℕ
IC a = get_or a 15 0

-- ---- a truck: the 20 fields of its line, and the identifiers of the lines after it; `docks` has a list for each supplier, in their order
pub record Truck : Type 0 where
  pub fields : List ℕ
  pub products : List ℕ
  pub suppliers : List ℕ
  pub docks : List (List ℕ)
  pub plant_docks : List ℕ

-- length
abbrev pub TL : Truck → ℕ
TL t = get_or t.fields 0 0

-- width
abbrev pub TW : Truck → ℕ
TW t = get_or t.fields 1 0

-- height
abbrev pub TH : Truck → ℕ
TH t = get_or t.fields 2 0

-- load limit
abbrev pub TMm : Truck → ℕ
TMm t = get_or t.fields 3 0

-- plant
abbrev pub TP : Truck → ℕ
TP t = get_or t.fields 4 0

-- arrival day
abbrev pub TDA : Truck → ℕ
TDA t = get_or t.fields 5 0

-- limit of the weight above a bottom item
abbrev pub TMM : Truck → ℕ
TMM t = get_or t.fields 6 0

-- two-dock flag: 1 where a stack may have two plant docks
abbrev pub TF : Truck → ℕ
TF t = get_or t.fields 7 0

-- density limit, in kilograms per square metre
abbrev pub TEM : Truck → ℕ
TEM t = get_or t.fields 8 0

-- cost
abbrev pub TC : Truck → ℕ
TC t = get_or t.fields 9 0

-- weight of the tractor
abbrev pub CM : Truck → ℕ
CM t = get_or t.fields 10 0

-- from front to middle axle
abbrev pub CJfm : Truck → ℕ
CJfm t = get_or t.fields 11 0

-- from front axle to the tractor's centre
abbrev pub CJfc : Truck → ℕ
CJfc t = get_or t.fields 12 0

-- from front axle to harness
abbrev pub CJfh : Truck → ℕ
CJfh t = get_or t.fields 13 0

-- weight of the empty trailer
abbrev pub EM : Truck → ℕ
EM t = get_or t.fields 14 0

-- from harness to rear axle
abbrev pub EJhr : Truck → ℕ
EJhr t = get_or t.fields 15 0

-- from the trailer's centre to the rear axle
abbrev pub EJcr : Truck → ℕ
EJcr t = get_or t.fields 16 0

-- from the trailer's front end (x = 0) to the harness
abbrev pub EJeh : Truck → ℕ
EJeh t = get_or t.fields 17 0

-- limit of the rear axle
abbrev pub EMmr : Truck → ℕ
EMmr t = get_or t.fields 18 0

-- limit of the middle axle
abbrev pub EMmm : Truck → ℕ
EMmm t = get_or t.fields 19 0

-- ---- an instance: the three coefficients of the cost, and items and trucks in file order
pub record Instance : Type 0 where
  pub αT : ℕ
  pub αI : ℕ
  pub αE : ℕ
  pub items : List Item
  pub trucks : List Truck

-- "Items and trucks are numbered from 1 in file order": the item of a number
abbrev pub item : Instance → ℕ → Item
item i n = get_or i.items (n - 1) []

-- stands in for a number that no truck has
abbrev pub no_truck : Truck
no_truck = record { fields = []; products = []; suppliers = []; docks = []; plant_docks = [] }

-- the truck of a number
abbrev pub truck_numbered : Instance → ℕ → Truck
truck_numbered i n = get_or i.trucks (n - 1) no_truck

-- ---- a stack: the six fields of its line, and the numbers of its items, bottom first. A plan is a list of stacks
pub record Stack : Type 0 where
  pub fields : List ℕ
  pub load : List ℕ

-- a stack is known by its number, the first field of its line
abbrev pub stack_number : List ℕ → ℕ
stack_number fields = get_or fields 0 0

-- its number
abbrev pub number : Stack → ℕ
number s = stack_number s.fields

-- the number of its truck
abbrev pub truck : Stack → ℕ
truck s = get_or s.fields 1 0

-- 0 the planned truck, 1 to 99 an extra one like it
abbrev pub copy : Stack → ℕ
copy s = get_or s.fields 2 0

-- where it begins along the trailer, from the front wall
abbrev pub x : Stack → ℕ
x s = get_or s.fields 3 0

-- where it begins across the trailer
abbrev pub y : Stack → ℕ
y s = get_or s.fields 4 0

-- 1 lengthwise, 2 widthwise
abbrev pub orientation : Stack → ℕ
orientation s = get_or s.fields 5 0

-- the truck that the stack is on
abbrev pub truck_of : Instance → Stack → Truck
truck_of i s = truck_numbered i (truck s)
