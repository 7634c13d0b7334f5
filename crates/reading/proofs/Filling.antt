-- The named words while they are filled: first those of the instance, then those of the plan; and what is answered on the way.
use mathlib.Core.Path.{◌≡◌, refl, sym, ap, ap₂, ◌∙◌}
use mathlib.Core.Option.{Option, none, some}
use mathlib.Core.List.{List, [], ◌∷◌, ◌++◌, flat_map, append_assoc, append-nil}
use Prim.Native.Nat.{ℕ, suc, ◌+◌, ◌-◌, ◌*◌}
use native.Mathlib.Nat.{sub-zero}
use native.Mathlib.Numerals.{add-one}
use native.Mathlib.Omega.{arith}
use lib.ListN.{length, get_or, set, take, drop, replicate, length-append, length-drop, length-replicate, replicate-append-replicate, drop_of_length-le}
use lib.Seq.{take_at, take_all, drop_at}
use borrow.Rule.Slice.PartMut.{put_mid}
use Rattle.meaning.specs.declared.Limits.{Limits}
use Rattle.meaning.specs.declared.Place.{Place}
use Rattle.meaning.specs.declared.Answer.{Answer}
use Rattle.meaning.specs.Limits.{stacks_at, named}
use Rattle.meaning.specs.Model.{Instance, Stack}
use Rattle.meaning.specs.Reader.{Outcome, found, wrong_form, out_of_range, onward, at_end, whole_file}
use Rattle.meaning.specs.Files.{◌to◌, number_line, instance_lines, stack_lines, plan_lines}
use Rattle.meaning.specs.Table.{head_words, stack_words, load_entries, words, instance_in}
use Rattle.meaning.specs.Meets.{FilesMeet, InstanceMeets}
use Rattle.meaning.specs.Places.{place, lowest}
use Rattle.meaning.specs.Check.{Reading, refused, readable, refused_at, after_plan, after_clash, after_instance, code_clashes}
use Rattle.meaning.proofs.Outcomes.{Finds}
use Rattle.meaning.proofs.ReadFiles.{Wholly}
use Rattle.meaning.proofs.Printed.{instance_off}
use Rattle.meaning.proofs.Ranges.{meets_fits}
use Rattle.meaning.proofs.Decode.{decodes}
use Rattle.table.specs.Filled.{Bounded}
use Rattle.table.proofs.Words.{items_counted}
use Rattle.table.proofs.Fill.{words_filled}
use Rattle.ranges.specs.declared.Clash.{Clash}
use Rattle.ranges.specs.Clashes.{items_in, clash_place}
use Rattle.ranges.proofs.Clashes.{clashes_of}
use Rattle.std.specs.Borrow.{Bor}
use Rattle.std.specs.Prelude.{Option as Perhaps, Ok, Err}
use Rattle.lines.specs.declared.LineRefused.{LineRefused}
use Rattle.lines.specs.declared.LineRefused.TheVariants.{WrongForm, OutOfRange}
use Rattle.lines.specs.declared.cursor.Cursor.{Cursor}
use Rattle.lines.specs.declared.LineValue.{LineValue}
use Rattle.lines.specs.Progress.{Progress, lines_before, at_start, reached, LineResult, progress_of, ReadInto}
use Rattle.lines.proofs.Follow.{onward_twice}
use Rattle.instance.specs.Words.{instance_file, instance_words}
use Rattle.plan.specs.declared.counts.Counts.{Counts}
use Rattle.plan.specs.Words.{plan_words, plan_file, PlanPromise}
use Rattle.reading.specs.declared.Refusal.TheVariants.{InstanceForm, InstanceRange, PlanForm, PlanRange}
use Rattle.reading.specs.Answered.{FilesRead, number_of, refusal_by, refused_with, FillPromise, HoldsInstance}

-- ---- the words of a model are those of its instance and those of its plan
module _ (m : Limits) (i : Instance) where
  -- with no stack yet
  no_stack_words : instance_words m i ++ plan_words m [] ≡ words m i []
  unfolding instance_words plan_words words head_words
  no_stack_words = simp append_assoc

  -- once the number of stacks stands in its word
  stack_words_lem : (p : List Stack) → set (instance_words m i ++ plan_words m p) 5 (length p) ≡ words m i p
  unfolding instance_words plan_words words head_words
  stack_words_lem p = simp append_assoc

-- the words of no stacks are zero, as many as stand from the stacks on
abbrev zeros_behind : Limits → List ℕ
zeros_behind m = replicate (8 * m.stacks + m.loads) 0

no_plan_words : (m : Limits) → plan_words m [] ≡ zeros_behind m
unfolding plan_words stack_words load_entries flat_map
no_plan_words m = rw (sub-zero (8 * m.stacks), sub-zero m.loads) (replicate-append-replicate {A = ℕ} (8 * m.stacks) m.loads 0)

drop_zeros : (m : Limits) → drop (stacks_at m) (replicate {A = ℕ} (named m) 0) ≡ zeros_behind m
drop_zeros m =
    let e : named m ≡ stacks_at m + (8 * m.stacks + m.loads) = omega arith in
    rw (e, ← replicate-append-replicate {A = ℕ} (stacks_at m) (8 * m.stacks + m.loads) 0)
    (drop_at (replicate (stacks_at m) 0) (zeros_behind m) (stacks_at m) (length-replicate {A = ℕ} (stacks_at m) 0))

-- ---- an instance in range, in the named words
module _ (m : Limits) (i : Instance) (r : InstanceMeets m i) where
  -- with no stack it is a model in range
  range : FilesMeet m i []
  range = record { instance = r; stack_count = omega arith; stacks = tt }

  instance_alone : instance_in m (words m i []) ≡ i
  instance_alone = (decodes m i [] (meets_fits m i [] range)).instance

  instance_size : length (instance_words m i) ≡ stacks_at m
  instance_size =
      let whole = ap length (no_stack_words m i) ∙ (decodes m i [] (meets_fits m i [] range)).size in
      let behind = ap length (no_plan_words m) ∙ length-replicate {A = ℕ} (8 * m.stacks + m.loads) 0 in
      omega (arith, whole, behind, length-append (instance_words m i) (plan_words m []))

  -- its words in front of zeros are those of a model with no stack
  instance_placed : (zeros : List ℕ) (end : ℕ) → zeros ≡ replicate (named m) 0 → end ≡ stacks_at m → instance_words m i ++ drop end zeros ≡ words m i []
  instance_placed zeros end z e = rw (z, e, drop_zeros m, ← no_plan_words m) (no_stack_words m i)

  holds_instance : Bounded m → HoldsInstance m (words m i [])
  holds_instance b = record { filled = words_filled m i [] range b; exactly = rw instance_alone }

  -- the stacks and loads in their place, and the number of stacks
  plan_placed : (t : List ℕ) (at : ℕ) (p : List Stack) → t ≡ words m i [] → at ≡ stacks_at m
      → set (put_mid at (length t - at) t (plan_words m p)) 5 (length p) ≡ words m i p
  plan_placed t at p e h =
      let front : take at t ≡ instance_words m i =
      rw (e, ← no_stack_words m i, h) (take_at (instance_words m i) (plan_words m []) (stacks_at m) instance_size)
      in
      let none_left : drop (length t - at) (drop at t) ≡ [] = drop_of_length-le (drop at t) {i = length t - at} (omega (arith, length-drop at t)) in
      rw (front, none_left, append-nil (plan_words m p)) (stack_words_lem m i p)

-- ---- what reading a file says
plan_file_lem : (m : Limits) (i : Instance) (file : List ℕ) → plan_file m (length i.items) (length i.trucks) 1 file ≡ whole_file (plan_lines m i) file
unfolding plan_file plan_lines whole_file
plan_file_lem m i file =
    sym (onward_twice (number_line "stacks=" (0 to m.stacks) 1 file) (λ n. stack_lines m.loads (length i.items) (length i.trucks) n [] 0) at_end)

-- what a whole file is read as was found, and nothing is left
whole_finds : {A : Type 0} (r : Outcome A) (a : A) (n : ℕ) (rest : List ℕ) → found a n rest ≡ onward r at_end → Finds (Wholly a) r
unfolding onward at_end
whole_finds (found b k []) a n rest e = (cc, refl)
whole_finds (found b k (x ∷ left)) a n rest e = absurd (let z : ◌≡◌ {A = ℕ} 0 1 = cc in omega arith)
whole_finds (wrong_form k) a n rest e = let z : ◌≡◌ {A = ℕ} 0 1 = cc in omega arith
whole_finds (out_of_range k) a n rest e = let z : ◌≡◌ {A = ℕ} 0 1 = cc in omega arith

-- ---- what is answered
module _ (m : Limits) (says : Reading) (t : List ℕ) where
  -- a refusal says nothing of the words
  refused_filled : (r : FilesRead) (a : Answer) → says ≡ refused a → r ≡ Err a → FillPromise m says r t
  refused_filled r a e k = record { answered = rw e k; holds = λ i p f. absurd (let z : ◌≡◌ {A = ℕ} 0 1 = cc in omega arith) }

  -- readable files say all of them
  readable_filled : (i : Instance) (p : List Stack) → says ≡ readable i p → t ≡ words m i p → FillPromise m says (Ok tt) t
  readable_filled i p e k = record { answered = rw e; holds = λ j q f. k ∙ ap₂ (words m) (cc) (cc) }

  -- a refusal at the line behind n lines
  line_refused : (r : FilesRead) (verdict n : ℕ) → says ≡ refused_at verdict (suc n) → r ≡ refused_with verdict (n + 1) 0 → FillPromise m says r t
  line_refused r verdict n e k = refused_filled r _ e (k ∙ ap (λ (l : ℕ). refused_with verdict l 0) (add-one n))

-- ---- by how far the instance is read
module _ (m : Limits) (file : Bor (List ℕ)) (p : Progress) (part : List ℕ) (h : ReadInto (instance_file m) (instance_words m) (at_start file) p part) where
  -- what both files give
  abbrev both : List ℕ → Reading
  both plan = after_instance m plan (whole_file (instance_lines m) file.now)

  instance_said : (q : Progress) → p ≡ q → whole_file (instance_lines m) file.now ≡ reached h.value q
  unfolding whole_file
  instance_said q e = sym h.says ∙ ap (reached h.value) e

  pub instance_refused : (plan t : List ℕ) (r : FilesRead) (l : LineRefused) → p ≡ Err l
      → r ≡ refused_with (number_of (refusal_by l InstanceForm InstanceRange)) (lines_before l + 1) 0 → FillPromise m (both plan) r t
  unfolding after_instance
  instance_refused plan t r (WrongForm n) e k = line_refused m (both plan) t r 4 n (ap (after_instance m plan) (instance_said (Err (WrongForm n)) e)) k
  instance_refused plan t r (OutOfRange n) e k = line_refused m (both plan) t r 5 n (ap (after_instance m plan) (instance_said (Err (OutOfRange n)) e)) k

  -- where it is read to its end: the words are ready for the plan, and what the plan gives is what both files give
  module _ (c : Cursor) (e : p ≡ Ok c) where
    in_range_lem : InstanceMeets m h.value
    unfolding whole_file
    in_range_lem =
        (instance_off m file.now h.value (whole_finds (instance_lines m 1 file.now) h.value (suc c.line) (drop c.at c.file.now) (sym (instance_said (Ok c) e)))).0

    module _ (zeros : List ℕ) (end : ℕ) (z : zeros ≡ replicate (named m) 0) (f : end ≡ stacks_at m) where
      placed : part ++ drop (end - 0) zeros ≡ words m h.value []
      placed = rw (sub-zero end, rw e at h.holds tt) (instance_placed m h.value in_range_lem zeros end z f)

      pub instance_ready : Bounded m → HoldsInstance m (part ++ drop (end - 0) zeros)
      instance_ready b = rw placed (holds_instance m h.value in_range_lem b)

      abbrev alone : Instance
      alone = instance_in m (part ++ drop (end - 0) zeros)

      pub instance_onward : (plan : List ℕ) (r : FilesRead) (t : List ℕ) → FillPromise m (after_clash m alone plan (lowest (code_clashes alone))) r t
          → FillPromise m (both plan) r t
      unfolding after_instance
      instance_onward plan r t later =
          let same : alone ≡ h.value = ap (instance_in m) placed ∙ instance_alone m h.value in_range_lem in
          rw (instance_said (Ok c) e) (rw same at later)

-- ---- by the lowest code clash
-- of the items whose words are lent
pub clash_in : (m : Limits) (t : List ℕ) (clash : Perhaps Clash) (count : ℕ) → count ≡ length (instance_in m t).items
    → clash_place clash ≡ lowest (code_clashes (items_in count (take (length t - 16) (drop 16 t)))) → clash_place clash ≡ lowest (code_clashes (instance_in m t))
unfolding instance_in
clash_in m t clash count e is =
    let lent : take (length t - 16) (drop 16 t) ≡ drop 16 t = take_all (length t - 16) (drop 16 t) (omega (arith, length-drop 16 t)) in
    let same : count ≡ get_or t 3 0 = e ∙ items_counted m t in
    is ∙ ap lowest (clashes_of (instance_in m t) count _ (rw (lent, same) refl))

module _ (m : Limits) (i : Instance) (plan : List ℕ) (o : Option Place) (t : List ℕ) where
  pub clash_refused : (r : FilesRead) (n first : ℕ) → some (place n first 0) ≡ o → r ≡ refused_with 6 n first → FillPromise m (after_clash m i plan o) r t
  unfolding after_clash
  clash_refused r n first e k = refused_filled m (after_clash m i plan o) t r _ (ap (after_clash m i plan) (sym e)) k

  pub no_clash_lem : (r : FilesRead) → none ≡ o → FillPromise m (after_plan i (whole_file (plan_lines m i) plan)) r t → FillPromise m (after_clash m i plan o) r t
  unfolding after_clash
  no_clash_lem r e h = rw (← e) h

-- ---- by how far the plan is read
module _ (m : Limits) (i : Instance) (file : Bor (List ℕ)) (counts : Counts) (r : LineResult ℕ) (part : List ℕ) (a : counts.items ≡ length i.items)
    (b : counts.trucks ≡ length i.trucks) (h : PlanPromise m counts file r part) where
  abbrev on_plan : Reading
  on_plan = after_plan i (whole_file (plan_lines m i) file.now)

  plan_said : (q : LineResult ℕ) → r ≡ q → whole_file (plan_lines m i) file.now ≡ reached h.into.value (progress_of q)
  plan_said q e = sym (h.into.says ∙ rw (a, b) (plan_file_lem m i file.now)) ∙ ap (λ (x : LineResult ℕ). reached h.into.value (progress_of x)) e

  pub plan_refused : (t : List ℕ) (answer : FilesRead) (l : LineRefused) → r ≡ Err l
      → answer ≡ refused_with (number_of (refusal_by l PlanForm PlanRange)) (lines_before l + 1) 0 → FillPromise m on_plan answer t
  unfolding after_plan
  plan_refused t answer (WrongForm n) e k = line_refused m on_plan t answer 7 n (ap (after_plan i) (plan_said (Err (WrongForm n)) e)) k
  plan_refused t answer (OutOfRange n) e k = line_refused m on_plan t answer 8 n (ap (after_plan i) (plan_said (Err (OutOfRange n)) e)) k

  pub plan_readable : (t : List ℕ) (from : ℕ) (f : LineValue Cursor ℕ) → InstanceMeets m i → t ≡ words m i [] → from ≡ stacks_at m → r ≡ Ok f
      → FillPromise m on_plan (Ok tt) (set (put_mid from (length t - from) t part) 5 f.value)
  unfolding after_plan
  plan_readable t from found_stacks range w f e =
      readable_filled m on_plan _ i h.into.value (ap (after_plan i) (plan_said (Ok found_stacks) e))
      (rw (rw e at h.into.holds tt, rw e at h.stacks) (plan_placed m i range t from h.into.value w f))
