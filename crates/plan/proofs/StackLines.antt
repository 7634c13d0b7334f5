-- The lines of the stacks, followed one stack after another: what is found has its form's sizes, and the state of a loop that reads them.
use mathlib.Core.Path.{◌≡◌, refl, sym, ap, ap₂, ◌∙◌}
use mathlib.Core.List.{List, [], ◌∷◌, ◌++◌, flat_map, append_assoc, append-nil}
use Prim.Native.Nat.{ℕ, zero, suc, ◌+◌, ◌-◌, ◌*◌, ◌≤◌, ◌<◌}
use native.Mathlib.Nat.{sub-zero}
use native.Mathlib.Omega.{arith}
use borrow.Rule.Slice.PartMut.{mid_of, put_mid}
use lib.ListN.{length, drop, set, replicate, length-append, length-take, length-drop}
use Rattle.meaning.specs.declared.Limits.{Limits}
use Rattle.meaning.specs.Reader.{Outcome, found, wrong_form, out_of_range, Reader, give, line, onward, ◌>>=◌}
use Rattle.meaning.specs.Files.{stack_line, load_line, stack_lines}
use Rattle.meaning.specs.Model.{Stack, stack_number}
use Rattle.meaning.specs.Table.{load_entries}
use Rattle.meaning.proofs.Outcomes.{Leaves, leaves_onward, leaves_line}
use Rattle.std.specs.Prelude.{Ok, Err, IsErrAnd}
use Rattle.lines.specs.declared.LineRefused.{LineRefused}
use Rattle.lines.specs.declared.cursor.Cursor.{Cursor}
use Rattle.lines.specs.declared.LineValue.{LineValue}
use Rattle.lines.specs.Progress.{Progress, reached, resumed, Follows, LineResult, ReadInto, ReadEntries}
use Rattle.lines.proofs.Follow.{follows_self, follows_on, onward_same, onward_twice, onward_give, leaves_then, onward_refused, behind, stopped, handed_on}
use Rattle.lines.proofs.Follow.{onward_reached, past_reader, given_reached, same_resumed, read_has, read_meets}
use Rattle.ranges.specs.Ranges.{row_numbers}
use Rattle.plan.specs.declared.counts.Counts.{Counts}
use Rattle.plan.specs.Words.{spliced, one_stack, with_stack, StackPromise, plan_words}
use Rattle.plan.proofs.StackWords.{earlier_numbers, SixFields, earlier_more, loads_more, HoldsStacks, holds_none, holds_earlier, holds_more, stack_put}

-- a stack of its two lines
abbrev stack_of : List ℕ → List ℕ → Stack
stack_of fields load = record { fields = fields; load = load }

module _ (most items trucks : ℕ) where
  -- a stack's line has six fields
  one_six : (earlier : List ℕ) (loaded n : ℕ) (bs : List ℕ) → Leaves (λ s rest. SixFields s) (one_stack most items trucks earlier loaded n bs)
  unfolding one_stack
  one_six earlier loaded n bs =
      leaves_onward (λ fields rest. length fields ≡ 6) (λ s rest. SixFields s) (line (stack_line trucks earlier) n bs) _
      (leaves_line (stack_line trucks earlier) _ n bs (λ l rest ns e k f. omega (arith, f.least, f.most)))
      (λ fields n₁ bs₁ six. leaves_then SixFields (line (load_line most items loaded) n₁ bs₁) _ (λ load n₂ bs₂. six))

  -- as many stacks as are asked for
  pub so_many : (count : ℕ) (earlier : List ℕ) (loaded n : ℕ) (bs : List ℕ)
      → Leaves (λ ss rest. length ss ≡ count) (stack_lines most items trucks count earlier loaded n bs)
  unfolding stack_lines
  so_many zero earlier loaded n bs = refl
  so_many (suc count) earlier loaded n bs =
      leaves_then (λ (ss : List Stack). length ss ≡ suc count) (line (stack_line trucks earlier) n bs) _ (λ fields n₁ bs₁.
      leaves_then (λ (ss : List Stack). length ss ≡ suc count) (line (load_line most items loaded) n₁ bs₁) _ (λ load n₂ bs₂.
      leaves_onward (λ ss rest. length ss ≡ count) (λ ss rest. length ss ≡ suc count)
      (stack_lines most items trucks count (stack_number fields ∷ earlier) (loaded + length load) n₂ bs₂) _
      (so_many count (stack_number fields ∷ earlier) (loaded + length load) n₂ bs₂) (λ ss n₃ bs₃ e. ap suc e)))

  -- ---- one stack, from its two lines
  stack_says : (earlier : List ℕ) (loaded : ℕ) (p q r : Progress) (fields load : List ℕ)
      → reached fields q ≡ resumed p (line (stack_line trucks earlier)) → reached load r ≡ resumed q (line (load_line most items loaded))
      → reached (stack_of fields load) r ≡ resumed p (one_stack most items trucks earlier loaded)
  unfolding one_stack
  stack_says earlier loaded p q r fields load first second =
      sym
      (past_reader p q fields _ (λ f. line (load_line most items loaded) >>= λ l. give (stack_of f l)) first
      ∙ past_reader q r load _ (λ l. give (stack_of fields l)) second
      ∙ given_reached (stack_of fields load) r)

  -- a refusal of either line is one of the stack
  no_stack : Stack
  no_stack = stack_of [] []

  abbrev load_of : ℕ → List ℕ → Reader Stack
  load_of loaded fields = line (load_line most items loaded) >>= λ load. give (stack_of fields load)

  module _ (earlier : List ℕ) (loaded : ℕ) {p : Progress} where
    pub row_refused : {e : LineRefused} {w : List ℕ → List ℕ} {w' : Stack → List ℕ} {front out : List ℕ} → ReadInto (line (stack_line trucks earlier)) w p (Err e) front
        → ReadInto (one_stack most items trucks earlier loaded) w' p (Err e) out
    unfolding one_stack
    row_refused row = stopped row (load_of loaded) no_stack

    pub load_refused : {q : Progress} {e : LineRefused} {w v : List ℕ → List ℕ} {w' : Stack → List ℕ} {front back out : List ℕ}
        → ReadInto (line (stack_line trucks earlier)) w p q front → ReadInto (line (load_line most items loaded)) v q (Err e) back
        → ReadInto (one_stack most items trucks earlier loaded) w' p (Err e) out
    unfolding one_stack
    load_refused row load = behind row (load_of loaded) (stopped load (λ l. give (stack_of row.value l)) no_stack)

  -- ---- the stacks that are left
  -- so many stacks behind those that were read
  abbrev pub later : ℕ → List Stack → Reader (List Stack)
  later count ss n bs = onward (stack_lines most items trucks count (earlier_numbers ss) (length (load_entries ss)) n bs) (λ rest. give (ss ++ rest))

  -- before the first
  later_first : (count : ℕ) (p : Progress) → onward (reached [] p) (later count) ≡ resumed p (stack_lines most items trucks count [] 0)
  unfolding onward earlier_numbers load_entries flat_map
  later_first count (Ok c) = onward_give (stack_lines most items trucks count [] 0 (suc c.line) (drop c.at c.file.now))
  later_first count (Err e) = onward_refused e (later count)

  -- one of them, and then one fewer
  later_one : (count : ℕ) (ss : List Stack) (n : ℕ) (bs : List ℕ)
      → later (suc count) ss n bs ≡ onward (one_stack most items trucks (earlier_numbers ss) (length (load_entries ss)) n bs) (λ s. later count (ss ++ s ∷ []))
  unfolding onward stack_lines one_stack
  later_one count ss n bs = by_fields (line (stack_line trucks (earlier_numbers ss)) n bs)
    where
      loaded : ℕ
      loaded = length (load_entries ss)

      load_line_lem : Reader (List ℕ)
      load_line_lem = line (load_line most items loaded)

      behind : List ℕ → List ℕ → Reader (List Stack)
      behind fields load = stack_lines most items trucks count (stack_number fields ∷ earlier_numbers ss) (loaded + length load)

      by_rest : (s : Stack) (x : Outcome (List Stack))
          → onward (onward x (λ rest. give (s ∷ rest))) (λ rest. give (ss ++ rest)) ≡ onward x (λ rest. give ((ss ++ s ∷ []) ++ rest))
      by_rest s x =
          onward_twice x _ _ ∙ onward_same x _ _ (λ rest n bs. ap (λ (l : List Stack). found l n bs) (sym (append_assoc ss (s ∷ []) rest)))

      by_load : (fields : List ℕ) (x : Outcome (List ℕ))
          → onward (onward x (λ load n bs. onward (behind fields load n bs) (λ rest. give (stack_of fields load ∷ rest)))) (λ rest. give (ss ++ rest))
          ≡ onward (onward x (λ load. give (stack_of fields load))) (λ s. later count (ss ++ s ∷ []))
      by_load fields (found load n bs) =
          let s = stack_of fields load in
          let long : length (load_entries (ss ++ s ∷ [])) ≡ loaded + length load = ap length (loads_more s ss) ∙ length-append (load_entries ss) load in
          rw (earlier_more s ss, long) (by_rest s (behind fields load n bs))
      by_load fields (wrong_form n) = refl
      by_load fields (out_of_range n) = refl

      by_fields : (x : Outcome (List ℕ))
          → onward (onward x (λ fields n bs. onward (load_line_lem n bs) (λ load n bs. onward (behind fields load n bs) (λ rest. give (stack_of fields load ∷ rest)))))
          (λ rest. give (ss ++ rest))
          ≡ onward (onward x (λ fields n bs. onward (load_line_lem n bs) (λ load. give (stack_of fields load)))) (λ s. later count (ss ++ s ∷ []))
      by_fields (found fields n bs) = by_load fields (load_line_lem n bs)
      by_fields (wrong_form n) = refl
      by_fields (out_of_range n) = refl

  module _ (ss : List Stack) (q : Progress) where
    -- after one more
    later_next : (count : ℕ) (s : Stack) (r : Progress)
        → reached s r ≡ resumed q (one_stack most items trucks (earlier_numbers ss) (length (load_entries ss)))
        → onward (reached ss q) (later (suc count)) ≡ onward (reached (ss ++ s ∷ []) r) (later count)
    later_next count s r e =
        onward_same (reached ss q) (later (suc count)) _ (later_one count)
        ∙ onward_reached ss q _
        ∙ past_reader q r s _ (λ x. later count (ss ++ x ∷ [])) e
        ∙ sym (onward_reached (ss ++ s ∷ []) r (later count))

    -- after the last
    later_done : onward (reached ss q) (later 0) ≡ reached ss q
    unfolding onward stack_lines
    later_done = go q
      where
        go : (q : Progress) → onward (reached ss q) (later 0) ≡ reached ss q
        go (Ok c) = ap (λ (l : List Stack). found l (suc c.line) (drop c.at c.file.now)) (append-nil ss)
        go (Err e) = onward_refused e (later 0)

-- ---- one stack, as the code reads it
-- a refusal has no number of entries
pub stack_refused : {m : Limits} {counts : Counts} {k : ℕ} {before : LineValue Cursor ℕ} {e : LineRefused} {part₀ part : List ℕ} (r : LineResult ℕ)
    → IsErrAnd r (λ x. x ≡ e)
    → ReadInto (one_stack m.loads counts.items counts.trucks (row_numbers k part₀) before.value) (with_stack m k before.value part₀) (Ok before.next) (Err e) part
    → StackPromise m counts k before r part₀ part
stack_refused (Ok f) h i = absurd h
stack_refused (Err x) h i = record { into = handed_on h i; loaded = tt; within = tt }

module _ (m : Limits) (counts : Counts) (part₀ part₁ ys : List ℕ) (k : ℕ) (before : LineValue Cursor ℕ) (p : Cursor) (r : LineValue Cursor ℕ) where
  -- the part of the loads
  abbrev lent : List ℕ
  lent = mid_of (8 * m.stacks) (length part₁ - 8 * m.stacks) part₁

  pub stack_read : k < m.stacks → before.value ≤ m.loads → length part₀ ≡ 8 * m.stacks + m.loads → length part₁ ≡ length part₀ → length ys ≡ length lent
      → ReadInto (line (stack_line counts.trucks (row_numbers k part₀))) (λ fields. spliced (8 * k) fields part₀) (Ok before.next) (Ok p) part₁
      → ReadEntries (line (load_line (length lent) counts.items before.value)) (λ load. spliced before.value load lent) (Ok p) (Ok r) ys
      → before.value + r.value ≤ length lent
      → StackPromise m counts k before (Ok (record { value = before.value + r.value; next = r.next })) part₀
      (set (set (put_mid (8 * m.stacks) (length part₁ - 8 * m.stacks) part₁ ys) (8 * k + 6) before.value) (8 * k + 7) r.value)
  stack_read h room long same lent_same row load within =
      let all : length lent ≡ m.loads = simp (length-take, length-drop) (omega arith) in
      let earlier = row_numbers k part₀ in
      let s = stack_of row.value load.into.value in
      let meets = read_meets row.value (stack_line counts.trucks earlier) (Ok before.next) (Ok p) row.says tt in
      record {
        into =
            record {
              value = s;
              says =
                  stack_says m.loads counts.items counts.trucks earlier before.value (Ok before.next) (Ok p) (Ok r.next) row.value load.into.value
                  row.says (rw all at load.into.says);
              holds = λ going.
                  stack_put m k before.value r.value s part₀ part₁ ys (omega (arith, meets.least, meets.most)) h room load.count long same
                  lent_same (row.holds tt) (load.into.holds tt);
              follows = follows_on (Ok before.next) (Ok p) (Ok r.next) row.follows load.into.follows;
            };
        loaded = ap (λ (n : ℕ). before.value + n) load.count;
        within = omega (arith, all);
      }

-- ---- the state of the loop: of `count` stacks k are read. What was read, then what is left, is the whole answer
pub record SoFar (m : Limits) (counts : Counts) (count : ℕ) (p : Progress) (part : List ℕ) (k : ℕ) (q : LineValue Cursor ℕ) : Type 0 where
  pub stacks : List Stack
  pub many : length stacks ≡ k
  pub room : q.value ≤ m.loads
  pub follows : Follows p (Ok q.next)
  pub held : HoldsStacks m stacks q.value part
  pub says : onward (reached stacks (Ok q.next)) (later m.loads counts.items counts.trucks (count - k))
      ≡ resumed p (stack_lines m.loads counts.items counts.trucks count [] 0)

pub so_far_first : (m : Limits) (counts : Counts) (count : ℕ) (here : Cursor) (part : List ℕ)
    → part ≡ replicate (8 * m.stacks + m.loads) 0 → SoFar m counts count (Ok here) part 0 (record { value = 0; next = here })
so_far_first m counts count here part cleared =
    record {
      stacks = [];
      many = refl;
      room = omega arith;
      follows = follows_self (Ok here);
      held = holds_none m part cleared;
      says = rw (sub-zero count) (later_first m.loads counts.items counts.trucks count (Ok here));
    }

module _ {m : Limits} {counts : Counts} {count : ℕ} {p : Progress} {part : List ℕ} {k : ℕ} {q : LineValue Cursor ℕ}
    (t : SoFar m counts count p part k q) where
  -- a stack that is read now is read behind those before
  one_says : {w : Stack → List ℕ} {r : Progress} {out : List ℕ}
      → (one : ReadInto (one_stack m.loads counts.items counts.trucks (row_numbers k part) q.value) w (Ok q.next) r out)
      → reached one.value r
      ≡ resumed (Ok q.next) (one_stack m.loads counts.items counts.trucks (earlier_numbers t.stacks) (length (load_entries t.stacks)))
  one_says one =
      one.says ∙ same_resumed (Ok q.next) _ _ (λ going.
      ap₂ (one_stack m.loads counts.items counts.trucks) (ap (λ (n : ℕ). row_numbers n part) (sym t.many) ∙ holds_earlier t.held) t.held.counted)

  -- one stack more
  pub so_far_next : {r : LineValue Cursor ℕ} {part' : List ℕ} → k < count → count ≤ m.stacks → StackPromise m counts k q (Ok r) part part'
      → SoFar m counts count p part' (k + 1) r
  so_far_next {r} h fits one =
      let s = one.into.value in
      let ss = t.stacks in
      let left : count - k ≡ suc (count - (k + 1)) = omega arith in
      let six =
      read_has s SixFields (Ok q.next) (Ok r.next) _ (one_six m.loads counts.items counts.trucks (row_numbers k part) q.value) one.into.says tt
      in
      let more = holds_more t.held s six (omega (arith, t.many)) (omega (arith, one.within, one.loaded)) in
      record {
        stacks = ss ++ s ∷ [];
        many = length-append ss (s ∷ []) ∙ omega (arith, t.many);
        room = one.within;
        follows = follows_on p (Ok q.next) (Ok r.next) t.follows one.into.follows;
        held = rw (one.loaded, one.into.holds tt, ← t.many) more;
        says =
            sym (later_next m.loads counts.items counts.trucks ss (Ok q.next) (count - (k + 1)) s (Ok r.next) (one_says one.into))
            ∙ rw left at t.says;
      }

  -- a refusal ends the reading
  pub so_far_refused : {e : LineRefused} {part' out : List ℕ} → k < count → StackPromise m counts k q (Err e) part part'
      → ReadInto (stack_lines m.loads counts.items counts.trucks count [] 0) (plan_words m) p (Err e) out
  so_far_refused {e} h one =
      let rest = count - (k + 1) in
      let left : count - k ≡ suc rest = omega arith in
      record {
        value = t.stacks ++ one.into.value ∷ [];
        says =
            sym (onward_refused e (later m.loads counts.items counts.trucks rest))
            ∙ sym (later_next m.loads counts.items counts.trucks t.stacks (Ok q.next) rest one.into.value (Err e) (one_says one.into))
            ∙ rw left at t.says;
        holds = λ going. absurd going;
        follows = follows_on p (Ok q.next) (Err e) t.follows one.into.follows;
      }

  -- all are read
  pub so_far_done : k ≡ count → ReadInto (stack_lines m.loads counts.items counts.trucks count [] 0) (plan_words m) p (Ok q.next) part
  so_far_done h =
      let none : count - k ≡ 0 = omega arith in
      record {
        value = t.stacks;
        says = sym (later_done m.loads counts.items counts.trucks t.stacks (Ok q.next)) ∙ rw none at t.says;
        holds = λ going. t.held.words;
        follows = t.follows;
      }
