-- A walk over a slice from its last element down, as `for x in s.iter().rev()` makes it: which element comes next, and how many are left.
use mathlib.Core.Path.{◌≡◌, ◌∙◌}
use mathlib.Core.List.{List, [], ◌∷◌, ◌++◌}
use Prim.Native.Nat.{◌-◌, ◌≤◌, ◌<◌}
use native.Mathlib.Omega.{arith}
use denote.Ref.{Bor}
use lib.ListN.{length, get_or}
use Rattle.std.proofs.Common.{Option, Some, None, Iter}
use Rattle.std.specs.declared.iter.Rev.{Rev}
use Rattle.std.specs.Iterator.{Yields}
use Rattle.std.specs.Iterator.Adapters.{rev_source, rev_steps}
use Rattle.std.specs.Slice.Iter.{iter_rest, iter_steps_back}
use Rattle.std.proofs.lemmas.List.{length-reverse, length_push, get_or-reverse, get_or_default}
use Rattle.std.proofs.lemmas.Iterator.Adapters.{YieldsList-from_rev_slice}
use Rattle.std.proofs.lemmas.Iterator.Consumers.{YieldsList-turn, YieldsList-end}

-- a step of the walk over `l`, after the elements `done`
pub record Step {A : Type 0} (l : List A) (done : List (Bor A)) (d : A) (x : Bor A) : Type 0 where
  pub more : 0 < length l - length done
  pub is : x.now ≡ get_or l (length l - length done - 1) d
  pub left : length l - length (done ++ x ∷ []) ≡ length l - length done - 1

module _ {A : Type 0} (l : List A) (start : Rev (Iter A)) (done : List (Bor A)) (now : Rev (Iter A))
    (walked : Yields (rev_steps iter_steps_back) start done now) (r : Option (Bor A)) (next : Rev (Iter A)) (step : rev_steps iter_steps_back now r next) where
  pub back_step : (d : A) {x : Bor A} → r ≡ Some x → iter_rest (rev_source start) ≡ l → Step l done d x
  back_step d {x} is all =
      let t = YieldsList-turn (YieldsList-from_rev_slice l all) done now walked r next x is step in
      let k : length done < length l = rw (length-reverse l) at t.0 in
      let same : length l - 1 - length done ≡ length l - length done - 1 = omega arith in
      record {
        more = omega arith;
        is = t.1 ∙ get_or-reverse l (length done) x.now k ∙ rw same (get_or_default l _ x.now d (omega arith));
        left = omega (arith, length_push done x);
      }

  pub back_end : r ≡ None → iter_rest (rev_source start) ≡ l → length l - length done ≤ 0
  back_end is all =
      let t = YieldsList-end (YieldsList-from_rev_slice l all) done now walked r next is step in
      omega (arith, t.1, length-reverse l)
