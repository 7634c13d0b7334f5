-- The promise of the writing call leaves nothing free: whatever meets it has the same answer and the same bytes in both buffers.
use mathlib.Core.Path.{◌≡◌, sym, ◌∙◌}
use mathlib.Core.List.{List}
use Prim.Native.Nat.{ℕ}
use Rattle.meaning.specs.declared.Limits.{Limits}
use Rattle.meaning.specs.declared.Written.{Written}
use Rattle.writing.specs.Promised.{WritePromise}

pub nothing_free : (m : Limits) (table instance₀ plan₀ instance instance' plan plan' : List ℕ) (r r' : Written)
    → WritePromise m table instance₀ plan₀ instance plan r → WritePromise m table instance₀ plan₀ instance' plan' r'
    → (r ≡ r') × (instance ≡ instance') × (plan ≡ plan')
nothing_free m table instance₀ plan₀ instance instance' plan plan' r r' a b = (
  a.answered ∙ sym b.answered,
  a.instance_bytes ∙ sym b.instance_bytes,
  a.plan_bytes ∙ sym b.plan_bytes,
)
