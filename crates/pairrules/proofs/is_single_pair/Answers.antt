-- `pairrules::is_single_pair`: a stack without two plant docks keeps the rule with any other; for two stacks with two the codes decide.
use mathlib.Core.Path.{refl}
use native.Mathlib.Omega.{arith}
use Rattle.manifest.proofs.Reading.{index_within}
use Rattle.pairrules.proofs.Pairs.{first_not_two, second_not_two, both_two}
use Rattle.pairrules.proofs.Reading.{docks_are, code_is}
use Rattle.pairrules.proofs.is_single_pair.Goals as goal

pub returns-then-manifest-a-ne2 : goal.returns-then-manifest-a-ne2
returns-then-manifest-a-ne2 c = first_not_two _ _ _ (docks_are c.args.manifest.holds _ c.requires.0) c.if-manifest-a-ne2.true

pub returns-then-manifest-b-ne2 : goal.returns-then-manifest-b-ne2
returns-then-manifest-b-ne2 c = second_not_two _ _ _ (docks_are c.args.manifest.holds _ c.requires.1) c.if-manifest-b-ne2.true

pub bottom_field-code-requires : goal.bottom_field-code-requires
bottom_field-code-requires c = (omega (arith, index_within c.args.manifest.holds _ c.requires.0), omega arith)

pub bottom_field-requires : goal.bottom_field-requires
bottom_field-requires c = (omega (arith, index_within c.args.manifest.holds _ c.requires.0, index_within c.args.manifest.holds _ c.requires.1), omega arith)

pub returns : goal.returns
returns c =
    both_two _ _ _
    (docks_are c.args.manifest.holds _ c.requires.0) c.if-manifest-a-ne2.false
    (docks_are c.args.manifest.holds _ c.requires.1) c.if-manifest-b-ne2.false
    (code_is c.args.manifest.holds _ c.requires.0 refl c.bottom_field-code.ensures.0)
    (code_is c.args.manifest.holds _ c.requires.1 refl c.bottom_field.ensures.0)
