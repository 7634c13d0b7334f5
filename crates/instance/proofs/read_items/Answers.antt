-- A row is read as an item is, and its words are the item's numbers.
use Rattle.std.proofs.Common.{rules}
use Rattle.meaning.specs.Reader.{line}
use Rattle.meaning.specs.Files.{item_line}
use Rattle.instance.proofs.read_items.Goals as goal

pub returns : goal.returns
returns c = c.read_rows.ensures (line item_line) (λ here row r row' wide read. search rules)
