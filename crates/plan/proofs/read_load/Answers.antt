-- A load: its line is stored in words of its own, tested, judged, and what is kept of it is copied behind the loads before.
use mathlib.Core.Path.{◌≡◌, refl, sym, ap, ◌∙◌}
use mathlib.Core.Bool.{◌&&◌}
use Prim.Native.Nat.{ℕ, ◌+◌, ◌-◌}
use native.Mathlib.Omega.{arith}
use lib.Dec.{leb}
use lib.ListN.{length, take}
use lib.Seq.{length-take-le}
use Rattle.std.specs.Prelude.{Ok}
use Rattle.meaning.specs.Lists.{padded}
use Rattle.meaning.specs.Reader.{line}
use Rattle.meaning.specs.Files.{load_line}
use Rattle.lines.specs.Progress.{judged_entries_as, ReadEntries}
use Rattle.lines.proofs.Judging.{zeros_behind_lem, judged_entries, refused_entries}
use Rattle.plan.proofs.Splices.{put_spliced}
use Rattle.plan.proofs.Judging.{load_refuses_largest, both_made, one_made, load_fits, kept_count, load_within}
use Rattle.plan.proofs.read_load.Goals as goal
use Rattle.plan.proofs.read_load.Goals.{then-in_range, else-in_range, Joined-in_range}

judged_load : (c : Joined-in_range)
    → ReadEntries (line (load_line (length c.args.loads.now) c.args.counts.items c.args.loaded)) (padded 64) (Ok c.args.here)
    (judged_entries_as c.stored_line-stored.result c.if-in_range.judged_entries) c.stored_line-stored.new.out
judged_load c =
    let f = load_line (length c.args.loads.now) c.args.counts.items c.args.loaded in
    let words = c.stored_line-stored.new.out in
    let tested : c.if-in_range.judged_entries
    ≡ (c.all_between-in_range.result && leb (c.args.loaded + c.entries-count.result) (length c.args.loads.now)) =
    elim c.if-in_range.branch [ then-in_range w ↦ both_made _ w.if-in_range.true w.judged_entries-is | else-in_range w ↦ one_made _ w.if-in_range.false w.judged_entries-is ] in
    let fits =
    load_fits words (length c.args.loads.now) c.args.counts.items c.args.loaded c.entries-count.result (omega (arith, c.entries-count.ensures, c.stored_line-stored.ensures.room))
    c.all_between-in_range.ensures tested
    in
    judged_entries c.stored_line-stored.ensures f (padded 64) (c.stored_line-stored.ensures.says f refl refl refl (load_refuses_largest _ c.args.counts.items c.args.loaded (omega arith)))
    c.if-in_range.judged_entries (λ has. fits ∙ ap (λ (k : ℕ). f.fits (take k words)) c.entries-count.ensures) (λ has. zeros_behind_lem 64 _ words c.stored_line-stored.ensures.room c.stored_line-stored.auto.out (c.stored_line-stored.ensures.behind has)) c.stored_line-stored.auto.out

pub returns-in_err-kept-clause-read : goal.returns-in_err-kept-clause-read
returns-in_err-kept-clause-read c =
    refused_entries _ c.from_residual.ensures.1 (rw (sym c.judged_entries.ensures ∙ c.in_err-kept.was) at (judged_load (goal.at.returns-in_err-kept-clause-read c).Joined-in_range))

pub returns-clause-read : goal.returns-clause-read
returns-clause-read c =
    let words = c.stored_line-stored.new.out in
    let kept = c.in_ok-kept.kept.value in
    let size = c.args.loaded + kept - c.args.loaded in
    let stored = kept_count _ _ (sym c.judged_entries.ensures ∙ c.in_ok-kept.was) in
    let many : length (take kept words) ≡ size = length-take-le kept words (omega (arith, stored, c.stored_line-stored.ensures.room)) ∙ omega arith in
    rw (c.copy_from_slice.ensures.after, put_spliced c.args.loaded c.args.loads.now (take kept words) size many)
    (load_within 64 c.args.loads.now c.args.loaded (rw (sym c.judged_entries.ensures ∙ c.in_ok-kept.was) at (judged_load (goal.at.returns-clause-read c).Joined-in_range)))
