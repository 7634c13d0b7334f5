-- The promise of the bad line leaves nothing free: answers that meet it are the same part of the same file.
use mathlib.Core.Path.{◌≡◌, refl, sym, ap, ◌∙◌}
use mathlib.Core.Bool.{Bool, true, false}
use mathlib.Core.List.{List}
use Prim.Native.Nat.{ℕ}
use Rattle.meaning.specs.BadLine.{File, in_instance, in_plan, Part, handed_back}
use Rattle.badline.specs.declared.BadLine.{BadLine}
use Rattle.badline.specs.Located.{file_of, part_of}

-- each file is told by its own answer
unfoldable is_plan : File → Bool
is_plan in_instance = false
is_plan in_plan = true

is_plan_lem : (b : Bool) → is_plan (file_of b) ≡ b
unfolding is_plan
is_plan_lem true = refl
is_plan_lem false = refl

one_part : (r r' : BadLine) → part_of r ≡ part_of r' → r ≡ r'
one_part r r' e =
    let plan : r.plan ≡ r'.plan = sym (is_plan_lem r.plan) ∙ ap (λ (q : Part). is_plan q.file) e ∙ is_plan_lem r'.plan in
    λ j. record { plan = plan j; start = (e j).span.start; end = (e j).span.end }

pub nothing_free : (instance plan : List ℕ) (number line : ℕ) (r r' : BadLine)
    → part_of r ≡ handed_back instance plan number line → part_of r' ≡ handed_back instance plan number line → r ≡ r'
nothing_free instance plan number line r r' h k = one_part r r' (h ∙ sym k)
