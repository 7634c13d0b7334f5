-- The ranges of document 01 as inequalities by the fields' names, and the sizes that the table has room for. The readers' forms (Files) say the
-- same ranges as tests; that the two agree is proved (ReadInRange, ReadExactly).
use Rattle.std.specs.Prelude.{◌≡◌, List, map, ℕ, ◌≤◌, ◌<◌, length, get_or}
use Rattle.meaning.specs.declared.Limits.{Limits}
use Rattle.meaning.specs.Lists.{In, Every}
use Rattle.meaning.specs.Model.{Instance, Truck, Stack, Item, number, truck, copy, x, y, orientation}
use Rattle.meaning.specs.Model.{IL, IW, IH, nesting, IM, IS, ISM, IR, IO, IDE, IDL, IP, IG, IU, IK, IC}
use Rattle.meaning.specs.Model.{TL, TW, TH, TMm, TP, TDA, TMM, TF, TEM, TC, CM, CJfm, CJfc, CJfh, EM, EJhr, EJcr, EJeh, EMmr, EMmm}
use Rattle.meaning.specs.Table.{load_entries}

-- "Codes and identifiers are 1..65535"
abbrev pub IsIdentifier : ℕ → Type 0
IsIdentifier n = (1 ≤ n) × (n ≤ 65535)

-- distinct: two places with one number are one place
abbrev pub Distinct : List ℕ → Type 0
Distinct l = (j k : ℕ) → j < length l → k < length l → get_or l j 0 ≡ get_or l k 0 → j ≡ k

-- ---- the instance
-- an item's 16 fields
pub record ItemInRange (a : Item) : Type 0 where
  pub fields : length a ≡ 16
  pub long : (1 ≤ IL a) × (IL a ≤ 20000)
  pub wide : (1 ≤ IW a) × (IW a ≤ IL a)
  pub tall : (1 ≤ IH a) × (IH a ≤ 20000)
  pub nests : nesting a < IH a
  pub weight : (1 ≤ IM a) × (IM a ≤ 50000)
  pub code : IsIdentifier (IS a)
  pub maximal : (1 ≤ ISM a) × (ISM a ≤ 64)
  pub product : IsIdentifier (IR a)
  pub forced : IO a ≤ 2
  pub days : IDE a ≤ IDL a
  pub latest : IDL a ≤ 399
  pub plant : IsIdentifier (IP a)
  pub plant_dock : IsIdentifier (IG a)
  pub supplier : IsIdentifier (IU a)
  pub supplier_dock : IsIdentifier (IK a)
  pub daily_cost : IC a ≤ 100000

-- "Entries are identifiers, distinct in their line": a list of at least one and at most so many
pub record ListInRange (most : ℕ) (l : List ℕ) : Type 0 where
  pub some : 1 ≤ length l
  pub few : length l ≤ most
  pub identifiers : Every IsIdentifier l
  pub distinct : Distinct l

-- a truck's 20 fields
pub record FieldsInRange (t : Truck) : Type 0 where
  pub fields : length t.fields ≡ 20
  pub long : (1 ≤ TL t) × (TL t ≤ 20000)
  pub wide : (1 ≤ TW t) × (TW t ≤ 20000)
  pub tall : (1 ≤ TH t) × (TH t ≤ 20000)
  pub load_limit : (1 ≤ TMm t) × (TMm t ≤ 50000)
  pub plant : IsIdentifier (TP t)
  pub arrival : TDA t ≤ 399
  pub top_limit : TMM t ≤ 50000
  pub two_docks : TF t ≤ 1
  pub density_limit : (1 ≤ TEM t) × (TEM t ≤ 100000)
  pub cost : TC t ≤ 1000000
  pub tractor : CM t ≤ 50000
  pub front_to_middle : (1 ≤ CJfm t) × (CJfm t ≤ 20000)
  pub front_to_centre : CJfc t ≤ 20000
  pub front_to_harness : CJfh t ≤ 20000
  pub trailer : EM t ≤ 50000
  pub harness_to_rear : (1 ≤ EJhr t) × (EJhr t ≤ 20000)
  pub centre_to_rear : EJcr t ≤ 20000
  pub end_to_harness : EJeh t ≤ 20000
  pub rear_limit : (1 ≤ EMmr t) × (EMmr t ≤ 50000)
  pub middle_limit : (1 ≤ EMmm t) × (EMmm t ≤ 50000)

-- and its lists, a list of docks for each supplier
pub record TruckInRange (t : Truck) : Type 0 where
  pub fields : FieldsInRange t
  pub products : ListInRange 32 t.products
  pub suppliers : ListInRange 8 t.suppliers
  pub dock_lines : length t.docks ≡ length t.suppliers
  pub docks : Every (ListInRange 8) t.docks
  pub plant_docks : ListInRange 8 t.plant_docks

-- the five numbers that the instance begins with
pub record HeadInRange (m : Limits) (i : Instance) : Type 0 where
  pub αT : i.αT ≤ 1000
  pub αI : i.αI ≤ 1000
  pub αE : i.αE ≤ 1000
  pub some_item : 1 ≤ length i.items
  pub item_count : length i.items ≤ m.items
  pub some_truck : 1 ≤ length i.trucks
  pub truck_count : length i.trucks ≤ m.trucks

-- and its items and trucks
pub record InstanceInRange (m : Limits) (i : Instance) : Type 0 where
  pub head : HeadInRange m i
  pub items : Every ItemInRange i.items
  pub trucks : Every TruckInRange i.trucks

-- no code clash: two items of one code have the same IL and IW
abbrev pub NoClash : Instance → Type 0
NoClash i = (a b : Item) → In a i.items → In b i.items → IS a ≡ IS b → (IL a ≡ IL b) × (IW a ≡ IW b)

-- ---- the plan
-- a stack's six fields, for an instance of so many trucks
pub record StackInRange (trucks : ℕ) (s : Stack) : Type 0 where
  pub fields : length s.fields ≡ 6
  pub number : (1 ≤ number s) × (number s ≤ 65535)
  pub truck : (1 ≤ truck s) × (truck s ≤ trucks)
  pub copy : copy s ≤ 99
  pub x : x s ≤ 20000
  pub y : y s ≤ 20000
  pub orientation : (1 ≤ orientation s) × (orientation s ≤ 2)

-- its load, for an instance of so many items
pub record LoadInRange (items : ℕ) (s : Stack) : Type 0 where
  pub some : 1 ≤ length s.load
  pub few : length s.load ≤ 64
  pub entries : Every (λ n. (1 ≤ n) × (n ≤ items)) s.load

-- both files
pub record InRange (m : Limits) (i : Instance) (p : List Stack) : Type 0 where
  pub instance : InstanceInRange m i
  pub stack_count : length p ≤ m.stacks
  pub stacks : Every (StackInRange (length i.trucks)) p
  pub loads : Every (LoadInRange (length i.items)) p
  -- stack numbers are distinct
  pub numbers : Distinct (map number p)
  -- all loads together hold at most so many entries
  pub total : length (load_entries p) ≤ m.loads

-- ---- the sizes that the table has room for
pub record TruckFits (t : Truck) : Type 0 where
  pub fields : length t.fields ≡ 20
  pub products : length t.products ≤ 32
  pub suppliers : length t.suppliers ≤ 8
  pub dock_lines : length t.docks ≡ length t.suppliers
  pub docks : Every (λ (d : List ℕ). length d ≤ 8) t.docks
  pub plant_docks : length t.plant_docks ≤ 8

-- a model within the table
pub record Fits (m : Limits) (i : Instance) (p : List Stack) : Type 0 where
  pub item_count : length i.items ≤ m.items
  pub items : Every (λ (a : Item). length a ≡ 16) i.items
  pub truck_count : length i.trucks ≤ m.trucks
  pub trucks : Every TruckFits i.trucks
  pub stack_count : length p ≤ m.stacks
  pub stacks : Every (λ (s : Stack). length s.fields ≡ 6) p
  pub loads : length (load_entries p) ≤ m.loads
