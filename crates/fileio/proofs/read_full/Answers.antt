-- What a turn reads stands behind what was read before.
use Rattle.std.proofs.Common.{◌≡◌, ℕ, ◌+◌, ◌≤◌, List, ◌++◌, length, take, Option, None, Some, arith, rules}
use Rattle.std.specs.Io.KnownBytes.{Consumes}
use Rattle.std.proofs.Math.Seq.{take-append-add}
use Rattle.std.proofs.lemmas.List.{take-append-le, length-take-le}
use Rattle.std.proofs.lemmas.Grind.{common_steps}
use Rattle.fileio.proofs.read_full.Goals as goal

-- the first bytes of a buffer of which a middle part was overwritten
read_more : (done n : ℕ) (buffer read rest : List ℕ) → done ≤ length buffer → n ≤ length read
    → take (done + n) (take done buffer ++ (read ++ rest)) ≡ take done buffer ++ take n read
read_more done n buffer read rest within few =
    let before : length (take done buffer) ≡ done = length-take-le done buffer within in
    rw (← take-append-le n read rest few, ← take-append-add (take done buffer) (read ++ rest) n, before)

-- one read after another
consumed : (start before after : Option (List ℕ)) (xs ys both : List ℕ) → both ≡ xs ++ ys
    → Consumes start before xs → Consumes before after ys → Consumes start after both
consumed None before after xs ys both joined first then = tt
consumed (Some s) None after xs ys both joined first then = absurd first
consumed (Some s) (Some b) None xs ys both joined first then = absurd then
consumed (Some s) (Some b) (Some a) xs ys both joined first then = grind (arith, common_steps, joined, first, then)

pub loop-n-preserved : goal.loop-n-preserved
loop-n-preserved g c = record {
  within = search rules;
  read = consumed _ _ _ _ _ _
      (read_more c.loop-n.done c.in-Ok-1-to-max.n c.loop-n.buffer c.read.new.buf _ c.loop-n.invariant.within (omega (arith, c.read.auto.buf, c.in-Ok-1-to-max.ensures.bound)))
      c.loop-n.invariant.read c.in-Ok-1-to-max.ensures.bytes.0;
}
