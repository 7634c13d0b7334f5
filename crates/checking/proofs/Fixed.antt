-- The promise of the check leaves nothing free: whatever meets it has the same answer and the same words.
use mathlib.Core.Path.{◌≡◌, sym, ◌∙◌}
use mathlib.Core.List.{List}
use Prim.Native.Nat.{ℕ}
use Rattle.meaning.specs.declared.Limits.{Limits}
use Rattle.meaning.specs.declared.Answer.{Answer}
use Rattle.checking.specs.Checked.{CheckPromise}

pub nothing_free : (m : Limits) (instance plan table₀ table table' : List ℕ) (a a' : Answer)
    → CheckPromise m instance plan table₀ table a → CheckPromise m instance plan table₀ table' a' → (a ≡ a') × (table ≡ table')
nothing_free m instance plan table₀ table table' a a' h k = (h.answered ∙ sym k.answered, h.words ∙ sym k.words)
