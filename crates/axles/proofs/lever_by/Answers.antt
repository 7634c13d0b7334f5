-- `axles::lever_by`: the factors and their product are within their bounds, so that no operation overflows.
use Rattle.axles.specs.Weights.{lever_by}
use Rattle.axles.proofs.Amounts as amounts
use Rattle.axles.proofs.lever_by.Goals as goal

pub returns : goal.returns
unfolding lever_by
returns c = (amounts.lever c.requires.0 c.requires.1 c.requires.2 c.requires.3).same
