-- A model whose lines meet their forms: what the readers ask of each line, as a property of what was read. InRange says the same of the
-- fields by their names.
use Rattle.std.specs.Prelude.{◌≡◌, true, List, [], ◌∷◌, ℕ, ◌+◌, ◌≤◌, length}
use Rattle.meaning.specs.declared.Limits.{Limits}
use Rattle.meaning.specs.Lists.{Every}
use Rattle.meaning.specs.Text.{Form}
use Rattle.meaning.specs.Model.{Instance, Truck, Stack, number}
use Rattle.meaning.specs.InRange.{HeadInRange}
use Rattle.meaning.specs.Files.{item_line, truck_line, products_line, suppliers_line, docks_line, plant_docks_line, stack_line, load_line}

-- the numbers of a line of this form: as many as it takes, and in range
pub record Meets (f : Form) (ns : List ℕ) : Type 0 where
  pub least : f.least ≤ length ns
  pub most : length ns ≤ f.most
  pub fits : f.fits ns ≡ true

-- a truck's lines
pub record TruckMeets (t : Truck) : Type 0 where
  pub fields : Meets truck_line t.fields
  pub products : Meets products_line t.products
  pub suppliers : Meets suppliers_line t.suppliers
  pub dock_lines : length t.docks ≡ length t.suppliers
  pub docks : Every (Meets docks_line) t.docks
  pub plant_docks : Meets plant_docks_line t.plant_docks

-- the lines of an instance
pub record InstanceMeets (m : Limits) (i : Instance) : Type 0 where
  pub head : HeadInRange m i
  pub items : Every (Meets item_line) i.items
  pub trucks : Every TruckMeets i.trucks

-- stacks behind others whose numbers are `earlier` and whose loads hold `loaded` entries
abbrev pub StacksMeet : ℕ → ℕ → ℕ → List ℕ → ℕ → List Stack → Type 0
StacksMeet most items trucks earlier loaded [] = Unit {0}
StacksMeet most items trucks earlier loaded (s ∷ p) =
    Meets (stack_line trucks earlier) s.fields × Meets (load_line most items loaded) s.load
    × StacksMeet most items trucks (number s ∷ earlier) (loaded + length s.load) p

-- the lines of both files
pub record FilesMeet (m : Limits) (i : Instance) (p : List Stack) : Type 0 where
  pub instance : InstanceMeets m i
  pub stack_count : length p ≤ m.stacks
  pub stacks : StacksMeet m.loads (length i.items) (length i.trucks) [] 0 p
