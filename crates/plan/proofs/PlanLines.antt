-- The plan file as a whole: the number of its stacks, the stacks, and the end of the file.
use mathlib.Core.Path.{◌≡◌, sym, ◌∙◌}
use mathlib.Core.List.{List, []}
use Prim.Native.Nat.{ℕ}
use lib.ListN.{length}
use Rattle.meaning.specs.declared.Limits.{Limits}
use Rattle.meaning.specs.Reader.{◌>>=◌, at_end}
use Rattle.meaning.specs.Files.{stack_lines, number_line, ◌to◌}
use Rattle.std.specs.Borrow.{Bor}
use Rattle.std.specs.Prelude.{Ok, Err, IsErrAnd}
use Rattle.lines.specs.declared.LineRefused.{LineRefused}
use Rattle.lines.specs.declared.cursor.Cursor.{Cursor}
use Rattle.lines.specs.Progress.{Progress, at_start, ended_as, LineResult, ReadInto}
use Rattle.lines.proofs.Follow.{onward_reached, past_reader, read_has, follows_on, stopped, handed_on}
use Rattle.lines.proofs.Ended.{ended_reached, ended_follows, ended_going}
use Rattle.plan.specs.declared.counts.Counts.{Counts}
use Rattle.plan.specs.Words.{plan_words, plan_file, PlanPromise}
use Rattle.plan.proofs.StackLines.{so_many}

module _ (m : Limits) (counts : Counts) {file : Bor (List ℕ)} {part : List ℕ} where
  -- a refusal has no stacks
  pub plan_refused : {e : LineRefused} (r : LineResult ℕ) → IsErrAnd r (λ x. x ≡ e)
      → ReadInto (plan_file m counts.items counts.trucks) (plan_words m) (at_start file) (Err e) part → PlanPromise m counts file r part
  plan_refused (Ok f) h i = absurd h
  plan_refused (Err x) h i = record { into = handed_on h i; stacks = tt }

  -- of the first line
  pub announced_refused : {e : LineRefused} → ReadInto (number_line "stacks=" (0 to m.stacks)) (λ n. []) (at_start file) (Err e) []
      → ReadInto (plan_file m counts.items counts.trucks) (plan_words m) (at_start file) (Err e) part
  unfolding plan_file
  announced_refused announced = stopped announced (λ n. stack_lines m.loads counts.items counts.trucks n [] 0 >>= at_end) []

  module _ {here : Cursor} {q : Progress} (announced : ReadInto (number_line "stacks=" (0 to m.stacks)) (λ n. []) (at_start file) (Ok here) [])
      (stacks : ReadInto (stack_lines m.loads counts.items counts.trucks announced.value [] 0) (plan_words m) (Ok here) q part) where
    -- the end of the file behind the stacks
    pub plan_ended : {r : Progress} → ended_as q ≡ r → ReadInto (plan_file m counts.items counts.trucks) (plan_words m) (at_start file) r part
    unfolding plan_file
    plan_ended {r} e =
        let ss = stacks.value in
        record {
          value = ss;
          says =
              rw (← e)
              (ended_reached ss q
              ∙ sym
              (past_reader (at_start file) (Ok here) announced.value (number_line "stacks=" (0 to m.stacks))
              (λ n. stack_lines m.loads counts.items counts.trucks n [] 0 >>= at_end) announced.says
              ∙ past_reader (Ok here) q ss (stack_lines m.loads counts.items counts.trucks announced.value [] 0) at_end stacks.says
              ∙ sym (onward_reached ss q at_end)));
          holds = λ going. stacks.holds (ended_going q (rw (← e) at going));
          follows = rw (← e) (follows_on (at_start file) (Ok here) _ announced.follows (follows_on (Ok here) q _ stacks.follows (ended_follows q)));
        }

    -- and as many stacks as are announced
    pub plan_read : {next : Cursor} → ended_as q ≡ Ok next → PlanPromise m counts file (Ok (record { value = announced.value; next = next })) part
    unfolding plan_ended
    plan_read e = record {
      into = plan_ended e;
      stacks =
          let going = ended_going q (rw e tt) in
          sym
          (read_has stacks.value (λ l. length l ≡ announced.value) (Ok here) q _ (so_many m.loads counts.items counts.trucks announced.value [] 0) stacks.says going);
    }
