-- `ListedStack::row`: the row that the manifest holds is the stack's.
use Rattle.stackrules.proofs.Stacks.{row_of_stack}
use Rattle.stackrules.proofs.listed_stack.ListedStack.row.Goals as goal

pub returns : goal.returns
returns c = row_of_stack c.args.self.manifest.holds c.args.self.at c.args.self.listed
