-- Document 01, "The two files": every kind of line with its ranges, and the order of the lines.
use Rattle.std.specs.Prelude.{Bool, true, not, ◌&&◌, List, [], ◌∷◌, map, ℕ, zero, suc, ◌+◌, ◌-◌, leb, length, get_or}
use Prim.Native.String.{String}
use Rattle.meaning.specs.declared.Limits.{Limits}
use Rattle.meaning.specs.Lists.{all, any, listed, distinct, between}
use Rattle.meaning.specs.Text.{Form}
use Rattle.meaning.specs.Reader.{Reader, give, line, times, onward, ◌>>=◌}
use Rattle.meaning.specs.Model.{Instance, Truck, Stack, Item, stack_number, number, truck, copy, x, y, orientation}
use Rattle.meaning.specs.Model.{IL, IW, IH, nesting, IM, IS, ISM, IR, IO, IDE, IDL, IP, IG, IU, IK, IC}
use Rattle.meaning.specs.Model.{TL, TW, TH, TMm, TP, TDA, TMM, TF, TEM, TC, CM, CJfm, CJfc, CJfh, EM, EJhr, EJcr, EJeh, EMmr, EMmm}

-- ---- ranges
-- the lowest and the highest number of a range
pub record Range : Type 0 where
  pub low : ℕ
  pub high : ℕ

infix 90 ◌to◌
-- a range by its ends, both included
abbrev pub ◌to◌ : ℕ → ℕ → Range
a to b = record { low = a; high = b }

-- "Codes and identifiers are 1..65535"
abbrev pub identifier : Range
identifier = 1 to 65535

-- a field of A by its name, and the range that it lies in
pub record Field (A : Type 0) : Type 0 where
  pub value : A → ℕ
  pub range : Range

infix 85 ◌within◌
-- a name beside its range
abbrev pub ◌within◌ : {A : Type 0} → (A → ℕ) → Range → Field A
name within r = record { value = name; range = r }

-- the ranges alone, in the order of the fields
abbrev pub ranges : {A : Type 0} → List (Field A) → List Range
ranges fields = map (λ f. f.range) fields

-- each number lies in its range
unfoldable pub all_within : List Range → List ℕ → Bool
all_within [] ns = true
all_within (r ∷ rs) [] = true
all_within (r ∷ rs) (n ∷ ns) = between r.low r.high n && all_within rs ns

-- ---- two kinds of lines that recur
-- one entry for each range
abbrev pub fields_line : String → List Range → Form
fields_line key rs = record { key = key; least = length rs; most = length rs; fits = all_within rs }

-- "Entries are identifiers, distinct in their line"
abbrev pub identifiers_line : String → ℕ → Form
identifiers_line key most = record { key = key; least = 1; most = most; fits = λ ns. all (between 1 65535) ns && distinct ns }

-- the number of a line that has one
unfoldable pub number_line : String → Range → Reader ℕ
unfolding onward line all_within
number_line key r = do
  ns ← line (fields_line key (r ∷ []))
  give (get_or ns 0 0)

-- ---- the instance
-- "one item= line each, 16 fields", in their order
abbrev pub item_fields : List ℕ → List (Field Item)
item_fields a =
    IL within 1 to 20000
    ∷ IW within 1 to IL a
    ∷ IH within 1 to 20000
    ∷ nesting within 0 to (IH a - 1)
    ∷ IM within 1 to 50000
    ∷ IS within identifier
    ∷ ISM within 1 to 64
    ∷ IR within identifier
    ∷ IO within 0 to 2
    ∷ IDE within 0 to 399
    ∷ IDL within IDE a to 399
    ∷ IP within identifier
    ∷ IG within identifier
    ∷ IU within identifier
    ∷ IK within identifier
    ∷ IC within 0 to 100000
    ∷ []

-- width, nesting height and latest day depend on other fields of the line
abbrev pub item_ranges : List ℕ → List Range
item_ranges a = ranges (item_fields a)

-- an item's line
abbrev pub item_line : Form
item_line = record { key = "item="; least = 16; most = 16; fits = λ a. all_within (item_ranges a) a }

-- "for each truck a truck= line, 20 fields", in their order
abbrev pub truck_fields : List (Field Truck)
truck_fields =
    TL within 1 to 20000
    ∷ TW within 1 to 20000
    ∷ TH within 1 to 20000
    ∷ TMm within 1 to 50000
    ∷ TP within identifier
    ∷ TDA within 0 to 399
    ∷ TMM within 0 to 50000
    ∷ TF within 0 to 1
    ∷ TEM within 1 to 100000
    ∷ TC within 0 to 1000000
    ∷ CM within 0 to 50000
    ∷ CJfm within 1 to 20000
    ∷ CJfc within 0 to 20000
    ∷ CJfh within 0 to 20000
    ∷ EM within 0 to 50000
    ∷ EJhr within 1 to 20000
    ∷ EJcr within 0 to 20000
    ∷ EJeh within 0 to 20000
    ∷ EMmr within 1 to 50000
    ∷ EMmm within 1 to 50000
    ∷ []

-- the ranges of a truck's line
abbrev pub truck_ranges : List Range
truck_ranges = ranges truck_fields

-- a truck's line
abbrev pub truck_line : Form
truck_line = fields_line "truck=" truck_ranges

-- "products= (1..32 entries)"
abbrev pub products_line : Form
products_line = identifiers_line "products=" 32

-- "suppliers= (1..8)"
abbrev pub suppliers_line : Form
suppliers_line = identifiers_line "suppliers=" 8

-- "one docks= per supplier in their order (1..8)"
abbrev pub docks_line : Form
docks_line = identifiers_line "docks=" 8

-- "plantdocks= (1..8)"
abbrev pub plant_docks_line : Form
plant_docks_line = identifiers_line "plantdocks=" 8

-- "After it: products= (1..32 entries), suppliers= (1..8), one docks= per supplier in their order (1..8), plantdocks= (1..8)"
unfoldable pub truck_lines : Reader Truck
unfolding onward line times all_within all distinct
truck_lines = do
  fields ← line truck_line
  products ← line products_line
  suppliers ← line suppliers_line
  docks ← times (length suppliers) (line docks_line)
  plant_docks ← line plant_docks_line
  give (record { fields = fields; products = products; suppliers = suppliers; docks = docks; plant_docks = plant_docks })

-- "Instance, in order: transport= αT, inventory= αI, extra= αE (each 0..1000, αE in thousandths), items= (1..256), trucks= (1..16)", then items
-- and trucks
unfoldable pub instance_lines : Limits → Reader Instance
unfolding onward line truck_lines number_line times all_within
instance_lines m = do
  αT ← number_line "transport=" (0 to 1000)
  αI ← number_line "inventory=" (0 to 1000)
  αE ← number_line "extra=" (0 to 1000)
  item_count ← number_line "items=" (1 to m.items)
  truck_count ← number_line "trucks=" (1 to m.trucks)
  items ← times item_count (line item_line)
  trucks ← times truck_count truck_lines
  give (record { αT = αT; αI = αI; αE = αE; items = items; trucks = trucks })

-- ---- the plan, for an instance of so many items and trucks
-- the fields of a stack's line, in their order
abbrev pub stack_fields : ℕ → List (Field Stack)
stack_fields trucks =
    number within 1 to 65535
    ∷ truck within 1 to trucks
    ∷ copy within 0 to 99
    ∷ x within 0 to 20000
    ∷ y within 0 to 20000
    ∷ orientation within 1 to 2
    ∷ []

-- the ranges of a stack's line
abbrev pub stack_ranges : ℕ → List Range
stack_ranges trucks = ranges (stack_fields trucks)

-- `earlier` are the numbers of the stacks before this one
abbrev pub stack_line : ℕ → List ℕ → Form
stack_line trucks earlier = record { key = "stack="; least = 6; most = 6; fits = λ ns. all_within (stack_ranges trucks) ns && not (listed (stack_number ns) earlier) }

-- "load= 1..64 item numbers"; `loaded` is how many entries the loads before hold, and all together hold at most `most`
abbrev pub load_line : ℕ → ℕ → ℕ → Form
load_line most items loaded = record { key = "load="; least = 1; most = 64; fits = λ ns. all (between 1 items) ns && leb (loaded + length ns) most }

-- for each stack its two lines
unfoldable pub stack_lines : ℕ → ℕ → ℕ → ℕ → List ℕ → ℕ → Reader (List Stack)
unfolding onward line all_within all any
stack_lines most items trucks zero earlier loaded = give []
stack_lines most items trucks (suc n) earlier loaded = do
  fields ← line (stack_line trucks earlier)
  load ← line (load_line most items loaded)
  rest ← stack_lines most items trucks n (stack_number fields ∷ earlier) (loaded + length load)
  give (record { fields = fields; load = load } ∷ rest)

-- "Plan: stacks= (0..256), then per stack"
unfoldable pub plan_lines : Limits → Instance → Reader (List Stack)
unfolding onward stack_lines number_line
plan_lines m i = do
  n ← number_line "stacks=" (0 to m.stacks)
  stack_lines m.loads (length i.items) (length i.trucks) n [] 0
