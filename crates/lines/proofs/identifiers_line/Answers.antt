-- The words are zero, the line is stored, its entries are tested, the line is judged. Behind the entries there are zeros still.
use mathlib.Core.Path.{refl, ap, ◌∙◌}
use native.Mathlib.Omega.{arith}
use lib.ListN.{length, drop}
use Rattle.meaning.specs.Lists.{padded}
use Rattle.meaning.specs.Files.{identifiers_line}
use Rattle.lines.specs.Progress.{entries_of}
use Rattle.lines.proofs.Largest.{refuses_identifiers}
use Rattle.lines.proofs.Judging.{judged_entries, zeros_behind_lem}
use Rattle.lines.proofs.identifiers_line.Goals as goal

pub returns-clause-says : goal.returns-clause-says
returns-clause-says c =
    let room = length c.args.out.now in
    let many = entries_of c.stored_line-stored.result in
    rw c.judged_entries.ensures (λ k b.
    let f = identifiers_line k room in
    judged_entries c.stored_line-stored.ensures f (padded room) (c.stored_line-stored.ensures.says f b refl (omega arith) (refuses_identifiers k room)) c.are_identifiers-in_range.result
    (λ has. rw c.entries.ensures at c.are_identifiers-in_range.ensures)
    (λ has. zeros_behind_lem room many _ (omega (arith, c.stored_line-stored.ensures.room)) (omega arith) (c.stored_line-stored.ensures.behind has ∙ ap (drop many) c.clear.ensures))
    (omega arith))
