-- What a filled table holds.
use Rattle.std.specs.Prelude.{List}
use Rattle.meaning.specs.Model.{Instance, Stack}
use Rattle.meaning.specs.Table.{instance_in, stacks_in}
use Rattle.table.specs.declared.filled.Table.{Table}

-- the instance
abbrev pub instance_of : Table → Instance
instance_of t = instance_in t.named.limits t.named.words.now

-- the plan's stacks
abbrev pub stacks_of : Table → List Stack
stacks_of t = stacks_in t.named.limits t.named.words.now
