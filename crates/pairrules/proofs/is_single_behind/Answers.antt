-- `pairrules::is_single_behind`: a stack without two plant docks keeps the rule with any other; else each behind it is asked.
use mathlib.Core.Path.{refl, sym}
use native.Mathlib.Omega.{arith}
use Rattle.pairrules.proofs.Pairs.{first_not_two}
use Rattle.pairrules.proofs.Reading.{docks_are}
use Rattle.pairrules.proofs.is_single_behind.Goals as goal

pub returns-then-manifest-a-ne2 : goal.returns-then-manifest-a-ne2
returns-then-manifest-a-ne2 c =
    let docks = docks_are c.args.manifest.holds _ (omega (arith, c.requires.0, c.requires.1)) in
    ((λ e b from up. sym (first_not_two _ _ _ docks c.if-manifest-a-ne2.true)), (λ each. refl))
