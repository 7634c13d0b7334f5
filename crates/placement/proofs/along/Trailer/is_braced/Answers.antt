-- `Trailer::is_braced`: a stack at the front wall is braced; else those before it along the trailer are asked, since no other can brace it.
use native.Mathlib.Omega.{arith}
use Rattle.placement.proofs.Trailer.{both_wide, brace_found, not_braced}
use Rattle.placement.proofs.along.Trailer.is_braced.Goals as goal

pub in_contact-requires : goal.in_contact-requires
in_contact-requires c =
    let wide = both_wide c.loop-j.invariant c.loop-j-test.true c.footprint.ensures in
    (omega (arith, wide.0, wide.1), omega (arith, wide.0, wide.1))

pub returns-then-in_contact : goal.returns-then-in_contact
returns-then-in_contact c = brace_found c.loop-j.invariant c.loop-j-test.true c.footprint.ensures c.in_contact.ensures c.if-in_contact.true

pub returns : goal.returns
returns c = not_braced c.loop-j.invariant c.loop-j-test.false
