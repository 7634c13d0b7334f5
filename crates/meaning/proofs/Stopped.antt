-- The line handed back for an answer is the line that was refused.
use mathlib.Core.Path.{◌≡◌, refl, sym, ap, subst, ◌∙◌}
use mathlib.Core.Logic.{⊎_elim}
use mathlib.Core.Bool.{cond, ◌||◌}
use mathlib.Core.Option.{Option, none, some}
use mathlib.Core.List.{List, [], ◌∷◌, ◌++◌, flat_map, append_assoc}
use Prim.Native.Nat.{ℕ, suc, ◌+◌, ◌-◌, ◌≤◌}
use native.Mathlib.Omega.{arith}
use lib.Dec.{ltb, eqb}
use lib.ListN.{length, take, drop, length-append}
use lib.Seq.{drop-append_seam}
use Rattle.meaning.specs.declared.Limits.{Limits}
use Rattle.meaning.specs.declared.Place.{Place}
use Rattle.meaning.specs.declared.Answer.{Answer}
use Rattle.meaning.specs.Lists.{Every}
use Rattle.meaning.specs.Limits.{named}
use Rattle.meaning.specs.Text.{count_before}
use Rattle.meaning.specs.Reader.{Outcome, found, wrong_form, out_of_range, Reader, whole_file}
use Rattle.meaning.specs.Model.{Instance, Stack}
use Rattle.meaning.specs.Files.{instance_lines, plan_lines}
use Rattle.meaning.specs.Places.{place, lowest}
use Rattle.meaning.specs.Verdict.{refusal}
use Rattle.meaning.specs.Check.{after_plan, after_clash, after_instance, code_clashes, read_files, answer_to, answer}
use Rattle.meaning.specs.BadLine.{Span, span, line_span, File, in_instance, in_plan, part_or, handed_back, span_bytes, part_bytes}
use Rattle.meaning.specs.Reorder.{ended, OneLine}
use Rattle.meaning.specs.Stopped.{Fault, form, range, fault_number, AtLine, StoppedAt, file_bytes, part_from, IsLine}
use Rattle.meaning.specs.Stopped.{RefusedAt, RefusedLine, HandedBackRefused}
use Rattle.meaning.proofs.Tests.{by_less}
use Rattle.meaning.proofs.Accepted.{verdict_number}
use Rattle.meaning.proofs.Outcomes.{count_line, drop_line}
use Rattle.meaning.proofs.Linewise.{IfStopped, instance_stops, plan_stops}

-- ---- the part that a line is
-- a line behind the first, and behind so many
span_next : (n at : ℕ) (bs : List ℕ) → line_span (suc (suc n)) at bs ≡ line_span (suc n) (at + suc (count_before 10 bs)) (drop (suc (count_before 10 bs)) bs)
unfolding line_span
span_next n at [] = refl
span_next n at (b ∷ bs) = refl

span_behind : (ls : List (List ℕ)) (rest : List ℕ) (at : ℕ) → Every OneLine ls
    → line_span (suc (length ls)) at (flat_map ended ls ++ rest) ≡ line_span 1 (at + length (flat_map ended ls)) rest
unfolding flat_map
span_behind [] rest at h = let z : at ≡ at + 0 = omega arith in ap (λ (k : ℕ). line_span 1 k rest) z
span_behind (l ∷ ls) rest at h =
    let tail = flat_map ended ls ++ rest in
    let all : (ended l ++ flat_map ended ls) ++ rest ≡ l ++ 10 ∷ tail = simp append_assoc in
    let z : at + suc (length l) + length (flat_map ended ls) ≡ at + length (ended l ++ flat_map ended ls) = simp length-append (omega arith) in
    rw (all, span_next (length ls) at (l ++ 10 ∷ tail), count_line l tail h.0, drop_line l tail)
    (span_behind ls rest (at + suc (length l)) h.1 ∙ ap (λ (k : ℕ). line_span 1 k rest) z)

span_of : (bs : List ℕ) (n : ℕ) (h : AtLine 1 bs n) → line_span n 0 bs ≡ line_span 1 (length (flat_map ended h.before)) h.rest
span_of bs n h =
    let at : n ≡ suc (length h.before) = omega (arith, h.count) in
    let start : 0 + length (flat_map ended h.before) ≡ length (flat_map ended h.before) = omega arith in
    rw (at, h.joined, ← start) (span_behind h.before h.rest 0 h.one_lines)

-- the first line is there unless there are no bytes
span_there : (at : ℕ) (rest : List ℕ) → (rest ≡ [] → ⊥) → line_span 1 at rest ≡ some (span at (at + count_before 10 rest))
unfolding line_span
span_there at [] h = absurd (h refl)
span_there at (b ∷ rest) h = refl

span_missing : (at : ℕ) (rest : List ℕ) → rest ≡ [] → line_span 1 at rest ≡ none
unfolding line_span
span_missing at rest e = rw e

-- the bytes from behind others on
cut_bytes : (front rest : List ℕ) (size : ℕ) → span_bytes (front ++ rest) (span (length front) (length front + size)) ≡ take size rest
cut_bytes front rest size = let z : length front + size - length front ≡ size = omega arith in rw (z, drop-append_seam)

module _ (instance plan : List ℕ) where
  part_bytes_lem : (f : File) (s : Span) → part_bytes instance plan (record { file = f; span = s }) ≡ span_bytes (file_bytes instance plan f) s
  part_bytes_lem in_instance s = refl
  part_bytes_lem in_plan s = refl

  span_bytes_lem : (f : File) (front rest : List ℕ) → file_bytes instance plan f ≡ front ++ rest
      → part_bytes instance plan (part_or instance f (line_span 1 (length front) rest)) ≡ take (count_before 10 rest) rest
  unfolding line_span count_before
  span_bytes_lem f front [] e = let z : length instance - length instance ≡ 0 = omega arith in rw z
  span_bytes_lem f front (b ∷ rest) e = rw (part_bytes_lem, e) (cut_bytes front (b ∷ rest) (count_before 10 (b ∷ rest)))

  -- "instance for 4 and 5, plan for 7 and 8"
  handed_number : (f : File) (w : Fault) (n : ℕ) → handed_back instance plan (fault_number f w) n ≡ part_or instance f (line_span n 0 (file_bytes instance plan f))
  unfolding handed_back
  handed_number in_instance form n = refl
  handed_number in_instance range n = refl
  handed_number in_plan form n = refl
  handed_number in_plan range n = refl

  -- the empty part at the instance's end
  no_part : (f : File) → part_or instance f none ≡ part_from in_instance (length instance) 0
  no_part f = let z : length instance + 0 ≡ length instance = omega arith in rw z

  handed_line : (f : File) (w : Fault) (n : ℕ) (h : AtLine 1 (file_bytes instance plan f) n)
      → IsLine instance plan f h (handed_back instance plan (fault_number f w) n)
  handed_line f w n h =
      let front = flat_map ended h.before in
      let at = handed_number f w n ∙ ap (part_or instance f) (span_of (file_bytes instance plan f) n h) in
      record {
        there = λ k. at ∙ ap (part_or instance f) (span_there (length front) h.rest k);
        bytes = ap (part_bytes instance plan) at ∙ span_bytes_lem f front h.rest h.joined;
        missing = λ e. at ∙ ap (part_or instance f) (span_missing (length front) h.rest e) ∙ no_part f;
      }

-- ---- the answer
-- a number of a bad line says in which file, and what is wrong
said : ℕ → File × Fault
said n = (cond (ltb n 6) in_instance in_plan, cond (eqb n 4 || eqb n 7) form range)

said_number : (f : File) (w : Fault) → said (fault_number f w) ≡ (f, w)
unfolding said
said_number in_instance form = refl
said_number in_instance range = refl
said_number in_plan form = refl
said_number in_plan range = refl

-- it is none of the other numbers
fault_numbers : (f : File) (w : Fault) → (4 ≤ fault_number f w) × (fault_number f w ≤ 8) × (fault_number f w ≡ 6 → ⊥)
fault_numbers in_instance form = omega arith
fault_numbers in_instance range = omega arith
fault_numbers in_plan form = omega arith
fault_numbers in_plan range = omega arith

module _ (m : Limits) (instance plan : List ℕ) where
  abbrev Lined : Answer → Type 0
  Lined a = (f : File) (w : Fault) → a.number ≡ fault_number f w → RefusedLine f w m instance plan a

  -- a refusal at a line, and with the numbers before those of lines
  lined : (f : File) (w : Fault) (n : ℕ) → RefusedLine f w m instance plan (refusal (fault_number f w) (place n 0 0))
      → Lined (refusal (fault_number f w) (place n 0 0))
  lined f w n h f' w' e =
      subst (λ (s : File × Fault). RefusedLine s.0 s.1 m instance plan (refusal (fault_number f w) (place n 0 0)))
      (sym (said_number f w) ∙ ap said e ∙ said_number f' w') h

  low_lined : (n : ℕ) → n ≤ 3 → Lined (refusal n (place 0 0 0))
  low_lined n h f w e = absurd (omega (arith, fault_numbers f w))

  -- a file that a reader refuses
  file_refused : {A : Type 0} (r : Reader A) (f : File) (w : Fault) (n : ℕ) → StoppedAt w (whole_file r) 1 (file_bytes instance plan f) n
      → RefusedAt w r f instance plan (refusal (fault_number f w) (place n 0 0))
  file_refused r f w n h = record { stopped = h; handed = handed_line instance plan f w n h.line }

  instance_stopped : (w : Fault) (n : ℕ) → StoppedAt w (whole_file (instance_lines m)) 1 instance n → Lined (refusal (fault_number in_instance w) (place n 0 0))
  instance_stopped w n h = lined in_instance w n (file_refused (instance_lines m) in_instance w n h)

  module _ (i : Instance) (next : ℕ) (read : whole_file (instance_lines m) instance ≡ found i next []) where
    plan_stopped : (w : Fault) (n : ℕ) → StoppedAt w (whole_file (plan_lines m i)) 1 plan n → Lined (refusal (fault_number in_plan w) (place n 0 0))
    plan_stopped w n h = lined in_plan w n (record { says = i; next = next; read = read; refused = file_refused (plan_lines m i) in_plan w n h })

    plan_lined : (o : Outcome (List Stack)) → IfStopped (plan_lines m i) plan o → Lined (answer_to (after_plan i o))
    unfolding after_plan answer_to
    plan_lined (found p n rest) h = λ f w e.
        absurd (⊎_elim (λ z. omega (arith, fault_numbers f w)) (λ z. omega (arith, fault_numbers f w)) (verdict_number i p))
    plan_lined (wrong_form n) h = plan_stopped form n h
    plan_lined (out_of_range n) h = plan_stopped range n h

    clash_lined : (o : Option Place) → Lined (answer_to (after_clash m i plan o))
    unfolding after_clash answer_to
    clash_lined none = plan_lined (whole_file (plan_lines m i) plan) (plan_stops m i plan)
    clash_lined (some q) = λ f w e. absurd ((fault_numbers f w).2 (sym e))

  instance_lined : (o : Outcome Instance) → whole_file (instance_lines m) instance ≡ o → IfStopped (instance_lines m) instance o
      → Lined (answer_to (after_instance m plan o))
  unfolding after_instance answer_to
  instance_lined (found i n rest) e h = clash_lined i n (e ∙ ap (found i n) h) (lowest (code_clashes i))
  instance_lined (wrong_form n) e h = instance_stopped form n h
  instance_lined (out_of_range n) e h = instance_stopped range n h

  files_lined : Lined (answer_to (read_files m instance plan))
  unfolding read_files answer_to
  files_lined =
      by_less (λ q. Lined (answer_to q)) m.bytes (length instance) (λ long. low_lined 2 (omega arith)) (λ short.
      by_less (λ q. Lined (answer_to q)) m.bytes (length plan) (λ long. low_lined 3 (omega arith)) (λ short'.
      instance_lined (whole_file (instance_lines m) instance) refl (instance_stops m instance)))

pub handed_back_refused_lem : (m : Limits) → HandedBackRefused m
unfolding answer
handed_back_refused_lem m n instance plan =
    by_less (Lined m instance plan) n (named m) (λ h. low_lined m instance plan 1 (omega arith)) (λ h. files_lined m instance plan)
