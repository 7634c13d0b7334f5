-- What the rules are asked of: a stack of the manifest, and an item of a stack.
use Rattle.meaning.specs.Model.{Stack, Item, item}
use Rattle.table.specs.Filled.{stack_at}
use Rattle.table.specs.Held.{instance_of, stacks_of}
use Rattle.manifest.specs.Manifest.{manifest_at}
use Rattle.stackrules.specs.declared.listed_stack.ListedStack.{ListedStack}
use Rattle.stackrules.specs.declared.loaded_item.LoadedItem.{LoadedItem}

-- the stack at its place
abbrev pub listed_stack : ListedStack → Stack
listed_stack a = manifest_at (stacks_of a.manifest.table) a.at

-- the stack that an item is asked of
abbrev pub stack_of : LoadedItem → Stack
stack_of a = stack_at (stacks_of a.table) a.place

-- the item's line
abbrev pub item_of : LoadedItem → Item
item_of a = item (instance_of a.table) a.number
