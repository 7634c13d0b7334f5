-- From what reading and judging promise to what the check promises.
use mathlib.Core.Path.{◌≡◌, sym, ap, ◌∙◌}
use mathlib.Core.Bool.{Bool, true, false, cond}
use mathlib.Core.List.{List}
use Prim.Native.Nat.{ℕ, ◌≤◌}
use native.Mathlib.Omega.{arith}
use lib.Dec.{ltb}
use lib.ListN.{length}
use Rattle.meaning.specs.declared.Limits.{Limits}
use Rattle.meaning.specs.declared.Answer.{Answer}
use Rattle.meaning.specs.Limits.{named}
use Rattle.meaning.specs.Table.{instance_in, stacks_in}
use Rattle.meaning.specs.Places.{place}
use Rattle.meaning.specs.Verdict.{refusal, verdict_on}
use Rattle.meaning.specs.Check.{Reading, refused, readable, read_files, answer_to, answer, table_after}
use Rattle.meaning.specs.Claims.{Readable as Files}
use Rattle.meaning.proofs.Tests.{true≢false}
use Rattle.meaning.proofs.TableAfter.{table_after_lem}
use Rattle.meaning.proofs.Readable.{readable_answer, readable_exactly_lem, decided}
use Rattle.meaning.proofs.Feasible.{accepted_when_feasible_lem}
use Rattle.meaning.proofs.AnyOrder.{order_free_lem, any_order}
use Rattle.std.specs.Prelude.{Ok, Err, is_ok}
use Rattle.reading.specs.Answered.{FilesRead, read_as, expected, ReadPromise}
use Rattle.checking.specs.Checked.{CheckPromise}

-- a refusal of reading is the answer
answer_of : (short : Bool) (one a : Answer) (says : Reading) → Err a ≡ cond short (Err one) (read_as says) → a ≡ cond short one (answer_to says)
unfolding answer_to
answer_of true one a says e = cc
answer_of false one a (refused b) e = cc
answer_of false one a (readable i p) e = absurd (true≢false (sym (ap is_ok e)))

module _ (m : Limits) (instance plan table₀ table : List ℕ) (a : Answer) where
  -- the theorems of the meaning are the parts that follow from answer and table
  promised : a ≡ answer m (length table₀) instance plan → table ≡ table_after m table₀ instance plan → CheckPromise m instance plan table₀ table a
  promised e w =
      record {
        answered = e;
        words = w;
        table_promise = rw w (table_after_lem m table₀ instance plan);
        accepted_exactly = λ r. rw e (decided m (length table₀) instance plan r).accepted;
        refused_exactly = λ r. rw e (decided m (length table₀) instance plan r).refused;
        readable_exactly = rw e (readable_exactly_lem m (length table₀) instance plan);
        accepted_when_feasible = λ r. rw e (accepted_when_feasible_lem m (length table₀) instance plan r);
        order_free = λ r plan' o. let t = order_free_lem m (length table₀) instance plan plan' r o in (t.0, t.1 ∙ sym e);
        any_order = any_order m instance plan;
      }

  module _ (r : FilesRead) (h : ReadPromise m instance plan table₀ table r) where
    -- on readable files the answer is the verdict on what the table holds
    pub judged : r ≡ Ok tt → a ≡ verdict_on (instance_in m table) (stacks_in m table) → CheckPromise m instance plan table₀ table a
    judged e v =
        let size : length table ≡ length table₀ = ap length h.words ∙ (table_after_lem m table₀ instance plan).size in
        let files : Files m instance plan = record { says = instance_in m table; stacks = stacks_in m table; read = h.model e } in
        let room : named m ≤ length table₀ = omega (arith, (h.filled e).room, size) in
        promised (v ∙ sym (readable_answer m (length table₀) instance plan (record { room = room; files = files }))) h.words

    -- on others it is what reading refuses them for
    pub declined : r ≡ Err a → CheckPromise m instance plan table₀ table a
    unfolding answer expected
    declined e = promised (answer_of (ltb (length table₀) (named m)) (refusal 1 (place 0 0 0)) a (read_files m instance plan) (sym e ∙ h.answered)) h.words
