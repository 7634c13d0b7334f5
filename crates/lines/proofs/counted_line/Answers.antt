-- The words behind the first are lent and come back with the entries; the first word becomes their number.
use Prim.Native.Nat.{◌-◌}
use mathlib.Core.Path.{◌≡◌}
use native.Mathlib.Omega.{arith}
use lib.ListN.{length, take, drop, length-take, length-drop}
use Rattle.lines.proofs.Judging.{counted_entries}
use Rattle.lines.proofs.counted_line.Goals as goal

pub returns : goal.returns
returns c =
    let size : length (take (length c.args.out.now - 1) (drop 1 c.args.out.now)) ≡ length c.args.out.now - 1 = simp (length-take, length-drop) (omega arith) in
    λ k b. counted_entries (length c.args.out.now - 1) c.args.out.now (omega (arith, c.requires)) (rw size at (c.in_ok-entries.ensures.says k b))
