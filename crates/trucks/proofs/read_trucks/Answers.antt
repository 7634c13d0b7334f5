-- A row is read as a truck is, and its words are the truck's.
use Rattle.std.proofs.Common.{rules}
use Rattle.meaning.specs.Files.{truck_lines}
use Rattle.meaning.specs.Table.{truck_words}
use Rattle.trucks.proofs.RowWords.{in_words, words_read, rows_read}
use Rattle.trucks.proofs.read_trucks.Goals as goal

pub returns : goal.returns
returns c =
    rw c.in_ok-here.was
    (rows_read truck_lines truck_words _ _ (c.read_rows.ensures (in_words truck_lines truck_words) (λ here row r row' wide read.
    words_read truck_lines truck_words (search rules))))
