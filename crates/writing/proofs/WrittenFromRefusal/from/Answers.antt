-- Each refusal has its number; no file has a length.
use mathlib.Core.Path.{◌≡◌, refl, ap}
use Prim.Native.Nat.{ℕ, ◌+◌}
use denote.Enum.Declared.{tag_of}
use Rattle.meaning.specs.Write.{turned_down, written}
use Rattle.writing.specs.Refused.{number_of}
use Rattle.writing.specs.contracts.Refusal.{the_type}
use Rattle.writing.specs.declared.Refusal.{Refusal}
use Rattle.writing.specs.declared.Refusal.TheVariants.{ShortBuffer, UnfilledTable}
use Rattle.writing.proofs.WrittenFromRefusal.from.Goals as goal

number_told : (r : Refusal) → tag_of the_type r + 29 ≡ number_of r
number_told ShortBuffer = refl
number_told UnfilledTable = refl

pub returns : goal.returns
unfolding written
returns c = ap (λ (n : ℕ). written (turned_down n)) (number_told c.args.refusal)
