-- The promise of the reading call leaves nothing free: whatever meets it has the same answer and the same words.
use mathlib.Core.Path.{◌≡◌, sym, ◌∙◌}
use mathlib.Core.List.{List}
use Prim.Native.Nat.{ℕ}
use Rattle.meaning.specs.declared.Limits.{Limits}
use Rattle.reading.specs.Answered.{FilesRead, ReadPromise}

pub nothing_free : (m : Limits) (instance plan table₀ table table' : List ℕ) (r r' : FilesRead)
    → ReadPromise m instance plan table₀ table r → ReadPromise m instance plan table₀ table' r' → (r ≡ r') × (table ≡ table')
nothing_free m instance plan table₀ table table' r r' a b = (a.answered ∙ sym b.answered, a.words ∙ sym b.words)
