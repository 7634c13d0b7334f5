-- Every reader goes line after line and stops at the first bad line: that line decides it, and neither those before it nor what follows.
use mathlib.Core.Path.{◌≡◌, refl, sym, ap, subst, ◌∙◌}
use mathlib.Core.Logic.{◌⊎◌, inl, inr, ⊎_elim}
use mathlib.Core.Bool.{Bool, true, false, cond}
use mathlib.Core.Option.{Option, none, some}
use mathlib.Core.List.{List, [], ◌∷◌, ◌++◌, flat_map, append_assoc, append-nil}
use Prim.Native.Nat.{ℕ, zero, suc, ◌+◌, ◌≤◌}
use Prim.Native.String.{String}
use native.Mathlib.Omega.{arith}
use borrow.Author.Tests.{eqb-false, ne_eqb, le-ltb, ltb-false}
use lib.Dec.{ltb, eqb}
use lib.ListN.{length, take, drop, replicate, length-append, length-replicate}
use Rattle.meaning.specs.declared.Limits.{Limits}
use Rattle.meaning.specs.Lists.{Every, any, between, listed}
use Rattle.meaning.specs.Text.{bytes, Form, Taken, entries, bad_form, bad_range, count_before, judged_line, take_line, line_numbers}
use Rattle.meaning.specs.Reader.{Outcome, found, wrong_form, out_of_range, Reader, give, onward, ◌>>=◌, at_line, line, times, at_end, whole_file}
use Rattle.meaning.specs.Model.{Instance, stack_number}
use Rattle.meaning.specs.Files.{Range, ◌to◌, fields_line, number_line, truck_lines, instance_lines, stack_lines, plan_lines}
use Rattle.meaning.specs.Files.{item_line, truck_line, products_line, suppliers_line, docks_line, plant_docks_line, stack_line, load_line}
use Rattle.meaning.specs.Reorder.{ended, OneLine}
use Rattle.meaning.specs.Stopped.{Fault, form, range, stopping, line_reached, AtLine, continued, StoppedAt}
use Rattle.meaning.proofs.Tests.{decide, or_false, lt_reads, between_reads}
use Rattle.meaning.proofs.Lists.{every_append, flat_map_append}
use Rattle.meaning.proofs.Outcomes.{Leaves, first_line, not_listed, line_ended, OfLine, leaves_ended, finds_ended}
use Rattle.meaning.proofs.ReadBack.{line_one, TenDigits, line_read}

-- ---- readers that go line after line
-- the first line, with nothing before it
abbrev at_first : {n k : ℕ} (bs : List ℕ) → k ≡ n → AtLine n bs k
unfolding flat_map
at_first bs e = record { before = []; rest = bs; one_lines = tt; joined = refl; count = omega arith }

-- something was found: the lines that were read decide it, whatever follows them
record Passed {A : Type 0} (read : List ℕ → Outcome A) (from : ℕ) (bs : List ℕ) (a : A) (n : ℕ) (left : List ℕ) : Type 0 where
  line : AtLine from bs n
  leaves : line.rest ≡ left
  finds : (others : List ℕ) → read (continued line others) ≡ found a n others

-- the other thing that can be wrong with a line
abbrev other_fault : Fault → Fault
other_fault form = range
other_fault range = form

-- an outcome behind line n, or at line n with the other fault
abbrev Differs : {A : Type 0} → Fault → ℕ → Outcome A → Type 0
Differs w n o = (suc n ≤ line_reached o) ⊎ (o ≡ stopping (other_fault w) n)

differs_not : {A : Type 0} (w : Fault) (n : ℕ) (o : Outcome A) → Differs w n o → o ≡ stopping w n → ⊥
differs_not form n o (inl h) e = omega (arith, rw e at h)
differs_not range n o (inl h) e = omega (arith, rw e at h)
differs_not form n o (inr h) e = let z : ◌≡◌ {A = ℕ} 0 1 = cc in omega arith
differs_not range n o (inr h) e = let z : ◌≡◌ {A = ℕ} 0 1 = cc in omega arith

-- a line is bad, and another one in its place is not bad in the same way
record Halted {A : Type 0} (w : Fault) (read : List ℕ → Outcome A) (from : ℕ) (bs : List ℕ) (n : ℕ) : Type 0 where
  stopped : StoppedAt w read from bs n
  differs : (others : List ℕ) × Differs w n (read (continued stopped.line others))

-- what is to be shown of each outcome
abbrev Told : {A : Type 0} → (List ℕ → Outcome A) → ℕ → List ℕ → Outcome A → Type 0
Told read from bs (found a n left) = Passed read from bs a n left
Told read from bs (wrong_form n) = Halted form read from bs n
Told read from bs (out_of_range n) = Halted range read from bs n

-- a reader that goes line after line
record Linewise {A : Type 0} (r : Reader A) : Type 0 where
  tells : (n : ℕ) (bs : List ℕ) → Told (r n) n bs (r n bs)

-- the line that is reached is not before the first
told_ahead : {A : Type 0} (read : List ℕ → Outcome A) (n : ℕ) (bs : List ℕ) (o : Outcome A) → Told read n bs o → n ≤ line_reached o
told_ahead read n bs (found a k left) h = omega (arith, h.line.count)
told_ahead read n bs (wrong_form k) h = omega (arith, h.stopped.line.count)
told_ahead read n bs (out_of_range k) h = omega (arith, h.stopped.line.count)

abbrev Ahead : {A : Type 0} → Reader A → Type 0
Ahead r = (n : ℕ) (bs : List ℕ) → n ≤ line_reached (r n bs)

-- a value without reading
linewise_give : {A : Type 0} (a : A) → Linewise (give a)
unfolding flat_map
linewise_give a = record { tells = λ n bs. record { line = at_first bs refl; leaves = refl; finds = λ others. refl } }

-- ---- one reader after another
-- lines that stand behind other lines
module _ {n k j : ℕ} {bs left : List ℕ} (h : AtLine n bs k) (e : h.rest ≡ left) (g : AtLine k left j) where
  continued_both : (others : List ℕ) → flat_map ended (h.before ++ g.before) ++ others ≡ continued h (continued g others)
  continued_both others = rw (flat_map_append, append_assoc)

  abbrev both : AtLine n bs j
  both =
      record {
        before = h.before ++ g.before;
        rest = g.rest;
        one_lines = (every_append OneLine h.before g.before).1 (h.one_lines, g.one_lines);
        joined = h.joined ∙ ap (continued h) (e ∙ g.joined) ∙ sym (continued_both g.rest);
        count = omega (arith, h.count, g.count, length-append h.before g.before);
      }

module _ {A B : Type 0} (next : A → Reader B) where
  -- a reader that has stopped goes no further
  onward_stopping : (w : Fault) (n : ℕ) → onward (stopping w n) next ≡ stopping w n
  unfolding onward
  onward_stopping form n = refl
  onward_stopping range n = refl

  -- what is reached is not left again
  onward_reached : ((a : A) → Ahead (next a)) → (k : ℕ) (o : Outcome A) → k ≤ line_reached o → k ≤ line_reached (onward o next)
  unfolding onward
  onward_reached later k (found a n rest) h = omega (arith, later a n rest)
  onward_reached later k (wrong_form n) h = h
  onward_reached later k (out_of_range n) h = h

  onward_differs : ((a : A) → Ahead (next a)) → (w : Fault) (k : ℕ) (o : Outcome A) → Differs w k o → Differs w k (onward o next)
  onward_differs later w k o (inl h) = inl (onward_reached later (suc k) o h)
  onward_differs later w k o (inr e) = inr (rw e (onward_stopping (other_fault w) k))

module _ {A B : Type 0} (r : Reader A) (next : A → Reader B) (n : ℕ) (bs : List ℕ) where
  -- the first one stops
  halts_first : {w : Fault} {k : ℕ} → ((a : A) → Ahead (next a)) → Halted w (r n) n bs k → Halted w ((r >>= next) n) n bs k
  halts_first {w} {k} later g =
      let h = g.stopped in
      let others = g.differs.0 in
      let differs : Differs w k (onward (r n (continued h.line others)) next) = onward_differs next later w k (r n (continued h.line others)) g.differs.1 in
      record {
        stopped = record {
          outcome = rw h.outcome (onward_stopping next w k);
          line = h.line;
          passed = λ rest. onward_reached next later k (r n (continued h.line rest)) (h.passed rest);
          undecided = (others, differs_not w k (onward (r n (continued h.line others)) next) differs);
          bad = λ l tail o e rest. rw (h.bad l tail o e rest) (onward_stopping next w k);
          unended = h.unended;
        };
        differs = (others, differs);
      }

  module _ {a : A} {k : ℕ} {left : List ℕ} (h : Passed (r n) n bs a k left) where
    -- the first one finds something, so the next one decides
    next_reads : {j : ℕ} (g : AtLine k left j) (others : List ℕ)
        → onward (r n (continued (both h.line h.leaves g) others)) next ≡ next a k (continued g others)
    unfolding onward
    next_reads g others = rw (continued_both h.line h.leaves g others, h.finds (continued g others))

    stops_next : {w : Fault} {j : ℕ} → StoppedAt w (next a k) k left j → StoppedAt w ((r >>= next) n) n bs j
    unfolding onward
    stops_next g =
        record {
          outcome = rw (h.line.joined, h.finds h.line.rest, h.leaves) g.outcome;
          line = both h.line h.leaves g.line;
          passed = λ others. rw (next_reads g.line others) (g.passed others);
          undecided = (g.undecided.0, λ e. g.undecided.1 (sym (next_reads g.line g.undecided.0) ∙ e));
          bad = λ l tail o e others. next_reads g.line (ended l ++ others) ∙ g.bad l tail o e others;
          unended = g.unended;
        }

    halts_next : {w : Fault} {j : ℕ} → Halted w (next a k) k left j → Halted w ((r >>= next) n) n bs j
    unfolding stops_next
    halts_next {w} {j} g =
        let others = g.differs.0 in
        record { stopped = stops_next g.stopped; differs = (others, subst (Differs w j) (sym (next_reads g.stopped.line others)) g.differs.1) }

    passed_next : {j : ℕ} {b : B} {rest : List ℕ} → Passed (next a k) k left b j rest → Passed ((r >>= next) n) n bs b j rest
    passed_next g =
        record {
          line = both h.line h.leaves g.line;
          leaves = g.leaves;
          finds = λ others. next_reads g.line others ∙ g.finds others;
        }

linewise_then : {A B : Type 0} {r : Reader A} {next : A → Reader B} → Linewise r → ((a : A) → Linewise (next a)) → Linewise (r >>= next)
unfolding onward
linewise_then {A} {B} {r} {next} h g = record { tells = λ n bs. first n bs (r n bs) (h.tells n bs) }
  where
    later : (a : A) → Ahead (next a)
    later a n bs = told_ahead (next a n) n bs (next a n bs) ((g a).tells n bs)

    second : (n : ℕ) (bs : List ℕ) {a : A} {k : ℕ} {left : List ℕ} → Passed (r n) n bs a k left → (o : Outcome B) → Told (next a k) k left o
        → Told ((r >>= next) n) n bs o
    second n bs p (found b j rest) t = passed_next r next n bs p t
    second n bs p (wrong_form j) t = halts_next r next n bs p t
    second n bs p (out_of_range j) t = halts_next r next n bs p t

    first : (n : ℕ) (bs : List ℕ) (o : Outcome A) → Told (r n) n bs o → Told ((r >>= next) n) n bs (onward o next)
    first n bs (found a k left) p = second n bs p (next a k left) ((g a).tells k left)
    first n bs (wrong_form k) p = halts_first r next n bs later p
    first n bs (out_of_range k) p = halts_first r next n bs later p

-- ---- one line
-- what stands before the first byte 10 is one line, and in bytes without a byte 10 that is all
first_one : (bs : List ℕ) → OneLine (take (count_before 10 bs) bs)
unfolding count_before any
first_one [] = refl
first_one (b ∷ bs) = go (first_one bs) (eqb b 10) refl
  where
    go : OneLine (take (count_before 10 bs) bs) → (t : Bool) → eqb b 10 ≡ t → OneLine (take (cond t 0 (suc (count_before 10 bs))) (b ∷ bs))
    go rec true e = refl
    go rec false e = (or_false (eqb 10 b) (listed 10 (take (count_before 10 bs) bs))).1 (ne_eqb 10 b (λ k. eqb-false b 10 e (sym k)), rec)

count_all : (l : List ℕ) → OneLine l → count_before 10 l ≡ length l
unfolding count_before
count_all [] h = refl
count_all (b ∷ l) h = let t = not_listed 10 b l h in rw (t.0, count_all l t.1)

-- a line that is found is not one at which the reader stops
not_found : {A : Type 0} (a : A) (n : ℕ) (rest : List ℕ) (w : Fault) (k : ℕ) → found a n rest ≡ stopping w k → ⊥
not_found a n rest form k e = let z : ◌≡◌ {A = ℕ} 0 1 = cc in omega arith
not_found a n rest range k e = let z : ◌≡◌ {A = ℕ} 0 1 = cc in omega arith

-- the reader of a line stops at its number, or reaches the next one
at_ahead : (n : ℕ) (t : Taken) → n ≤ line_reached (at_line n t)
unfolding at_line
at_ahead n (entries ns rest) = omega arith
at_ahead n bad_form = omega arith
at_ahead n bad_range = omega arith

at_stopping : (n : ℕ) (t : Taken) (w : Fault) (k : ℕ) → at_line n t ≡ stopping w k → k ≡ n
unfolding at_line
at_stopping n (entries ns rest) w k e = absurd (not_found ns (suc n) rest w k e)
at_stopping n bad_form form k e = cc
at_stopping n bad_form range k e = cc
at_stopping n bad_range form k e = cc
at_stopping n bad_range range k e = cc

-- a line is bad whatever follows it
judged_bad : (f : Form) (n : ℕ) (o : Option (List ℕ)) (rest others : List ℕ) (w : Fault) (k : ℕ)
    → at_line n (judged_line f rest o) ≡ stopping w k → at_line n (judged_line f others o) ≡ stopping w k
unfolding judged_line at_line
judged_bad f n none rest others w k e = e
judged_bad f n (some ns) rest others w k e = go (between f.least f.most (length ns)) (f.fits ns) e
  where
    go : (b c : Bool) → at_line n (cond b (cond c (entries ns rest) bad_range) bad_form) ≡ stopping w k
        → at_line n (cond b (cond c (entries ns others) bad_range) bad_form) ≡ stopping w k
    go true true e = absurd (not_found ns (suc n) rest w k e)
    go true false e = e
    go false c e = e

-- an unended line is wrong form
line_unended : (f : Form) (n : ℕ) (bs : List ℕ) → length bs ≤ count_before 10 bs → line f n bs ≡ wrong_form n
unfolding line take_line at_line
line_unended f n bs h = rw (le-ltb (count_before 10 bs) (length bs) h)

only_form : {A : Type 0} (w : Fault) (n k : ℕ) → stopping {A = A} w k ≡ wrong_form n → w ≡ form
only_form form n k e = refl
only_form range n k e = cc

-- a line that is not wrong form
record Formed (f : Form) : Type 0 where
  text : List ℕ
  one_line : OneLine text
  numbers : List ℕ
  reads : line_numbers f.key text ≡ some numbers
  count : between f.least f.most (length numbers) ≡ true

-- zeros, as few as the form wants
zeros_short : (n : ℕ) → Every TenDigits (replicate n 0)
zeros_short zero = tt
zeros_short (suc n) = (omega arith, zeros_short n)

formed : (f : Form) → OneLine (bytes f.key) → (1 ≤ f.least) × (f.least ≤ f.most) → Formed f
formed f o h =
    let zeros : List ℕ = replicate f.least 0 in
    let size : length zeros ≡ f.least = length-replicate f.least 0 in
    record {
      text = _;
      one_line = line_one f.key zeros o;
      numbers = zeros;
      reads = line_read f.key zeros (omega arith) (zeros_short f.least);
      count = (between_reads f.least f.most (length zeros)).1 (omega arith);
    }

judged_differs : (f : Form) (n : ℕ) (ns rest : List ℕ) → between f.least f.most (length ns) ≡ true
    → Differs form n (at_line n (judged_line f rest (some ns)))
unfolding judged_line at_line
judged_differs f n ns rest c = rw c (go (f.fits ns))
  where
    go : (t : Bool) → Differs form n (at_line n (cond t (entries ns rest) bad_range))
    go true = inl (omega arith)
    go false = inr refl

module _ (f : Form) (good : Formed f) where
  -- in place of a line that is wrong form that line, in place of one that is out of range none
  line_differs : (w : Fault) (n : ℕ) → (others : List ℕ) × Differs w n (line f n others)
  unfolding count_before
  line_differs form n =
      (ended good.text ++ [], rw (line_ended f good.text [] n good.one_line, good.reads) (judged_differs f n good.numbers [] good.count))
  line_differs range n = ([], inr (line_unended f n [] (omega arith)))

  halts_line : (n : ℕ) (bs : List ℕ) (w : Fault) (k : ℕ) → line f n bs ≡ stopping w k → Halted w (line f n) n bs k
  unfolding line flat_map
  halts_line n bs w k e =
      let here : k ≡ n = at_stopping n (take_line f bs) w k e in
      let other = line_differs w n in
      record {
        stopped = record {
          outcome = e;
          line = at_first bs here;
          passed = λ others. omega (arith, at_ahead n (take_line f others));
          undecided = (other.0, rw here (differs_not w n (line f n other.0) other.1));
          bad = λ l tail o j others.
              line_ended f l others n o
              ∙ judged_bad f n (line_numbers f.key l) tail others w k (sym (line_ended f l tail n o) ∙ ap (line f n) (sym j) ∙ e);
          unended = λ o. only_form w n k (sym e ∙ line_unended f n bs (omega (arith, count_all bs o)));
        };
        differs = (other.0, rw here other.1);
      }

-- a line that is found was ended, and decides what is found
module _ (f : Form) (n : ℕ) (bs ns : List ℕ) (k : ℕ) (left : List ℕ) (e : line f n bs ≡ found ns k left) where
  passes_ended : (l rest : List ℕ) → OneLine l → bs ≡ l ++ 10 ∷ rest → Passed (line f n) n bs ns k left
  unfolding flat_map
  passes_ended l rest o cut =
      let j : bs ≡ ended l ++ rest = cut ∙ sym (append_assoc l (10 ∷ []) rest) in
      let of : OfLine f l rest ns left = subst (Leaves (OfLine f l rest)) e (leaves_ended f l rest bs n o j) in
      let next : k ≡ suc n = cc (finds_ended f l rest n ns o of.0 of.1) in
      record {
        line = record { before = l ∷ []; rest = rest; one_lines = (o, tt); joined = rw append-nil j; count = omega arith };
        leaves = sym of.2;
        finds = λ others. rw (append-nil, next) (finds_ended f l others n ns o of.0 of.1);
      }

  passes_line : Passed (line f n) n bs ns k left
  passes_line =
      let end = count_before 10 bs in
      ⊎_elim (λ h. passes_ended (take end bs) (drop (suc end) bs) (first_one bs) (first_line bs ((lt_reads end (length bs)).0 h)))
      (λ h. absurd (not_found ns k left form n (sym e ∙ line_unended f n bs (ltb-false end (length bs) h)))) (decide (ltb end (length bs)))

linewise_line : (f : Form) → OneLine (bytes f.key) → (1 ≤ f.least) × (f.least ≤ f.most) → Linewise (line f)
linewise_line f o h = record { tells = λ n bs. told n bs (line f n bs) refl }
  where
    told : (n : ℕ) (bs : List ℕ) (o : Outcome (List ℕ)) → line f n bs ≡ o → Told (line f n) n bs o
    told n bs (found ns k left) e = passes_line f n bs ns k left e
    told n bs (wrong_form k) e = halts_line f (formed f o h) n bs form k e
    told n bs (out_of_range k) e = halts_line f (formed f o h) n bs range k e

-- ---- the readers of the two files
linewise_times : {A : Type 0} {r : Reader A} → Linewise r → (k : ℕ) → Linewise (times k r)
unfolding times
linewise_times h zero = linewise_give []
linewise_times h (suc k) = linewise_then h (λ a. linewise_then (linewise_times h k) (λ l. linewise_give (a ∷ l)))

linewise_number : (key : String) (b : Range) → OneLine (bytes key) → Linewise (number_line key b)
unfolding number_line
linewise_number key b o = linewise_then (linewise_line (fields_line key (b ∷ [])) o (omega arith)) (λ ns. linewise_give _)

linewise_truck : Linewise truck_lines
unfolding truck_lines any
linewise_truck =
    linewise_then (linewise_line truck_line refl (omega arith)) (λ fields.
    linewise_then (linewise_line products_line refl (omega arith)) (λ products.
    linewise_then (linewise_line suppliers_line refl (omega arith)) (λ suppliers.
    linewise_then (linewise_times (linewise_line docks_line refl (omega arith)) (length suppliers)) (λ docks.
    linewise_then (linewise_line plant_docks_line refl (omega arith)) (λ plant_docks. linewise_give _)))))

linewise_instance : (m : Limits) → Linewise (instance_lines m)
unfolding instance_lines any
linewise_instance m =
    linewise_then (linewise_number "transport=" (0 to 1000) refl) (λ αT.
    linewise_then (linewise_number "inventory=" (0 to 1000) refl) (λ αI.
    linewise_then (linewise_number "extra=" (0 to 1000) refl) (λ αE.
    linewise_then (linewise_number "items=" (1 to m.items) refl) (λ item_count.
    linewise_then (linewise_number "trucks=" (1 to m.trucks) refl) (λ truck_count.
    linewise_then (linewise_times (linewise_line item_line refl (omega arith)) item_count) (λ items.
    linewise_then (linewise_times linewise_truck truck_count) (λ trucks. linewise_give _)))))))

linewise_stacks : (most items trucks count : ℕ) (before : List ℕ) (loaded : ℕ) → Linewise (stack_lines most items trucks count before loaded)
unfolding stack_lines any
linewise_stacks most items trucks zero before loaded = linewise_give []
linewise_stacks most items trucks (suc count) before loaded =
    linewise_then (linewise_line (stack_line trucks before) refl (omega arith)) (λ fields.
    linewise_then (linewise_line (load_line most items loaded) refl (omega arith)) (λ load.
    linewise_then (linewise_stacks most items trucks count (stack_number fields ∷ before) (loaded + length load)) (λ p. linewise_give _)))

linewise_plan : (m : Limits) (i : Instance) → Linewise (plan_lines m i)
unfolding plan_lines any
linewise_plan m i =
    linewise_then (linewise_number "stacks=" (0 to m.stacks) refl) (λ count. linewise_stacks m.loads (length i.items) (length i.trucks) count [] 0)

-- ---- a whole file
end_ahead : {A : Type 0} (a : A) → Ahead (at_end a)
unfolding at_end
end_ahead a n [] = omega arith
end_ahead a n (b ∷ bs) = omega arith

-- behind the last line there is only the first line too many
stops_end : {A : Type 0} (a : A) (n b : ℕ) (rest : List ℕ) → StoppedAt form (at_end a n) n (b ∷ rest) n
unfolding at_end flat_map any
stops_end a n b rest =
    record {
      outcome = refl;
      line = at_first (b ∷ rest) refl;
      passed = end_ahead a n;
      undecided = ([], not_found a n [] form n);
      bad = λ l tail o e others. more l others;
      unended = λ o. refl;
    }
  where
    more : (l others : List ℕ) → at_end a n (ended l ++ others) ≡ wrong_form n
    more [] others = refl
    more (c ∷ l) others = refl

-- where a file is not read to its end
abbrev pub IfStopped : {A : Type 0} → Reader A → List ℕ → Outcome A → Type 0
IfStopped r bs (found a n rest) = rest ≡ []
IfStopped r bs (wrong_form n) = StoppedAt form (whole_file r) 1 bs n
IfStopped r bs (out_of_range n) = StoppedAt range (whole_file r) 1 bs n

file_stops : {A : Type 0} (r : Reader A) → Linewise r → (bs : List ℕ) → IfStopped r bs (whole_file r bs)
unfolding whole_file onward at_end
file_stops r h bs = go (r 1 bs) (h.tells 1 bs)
  where
    go : (o : Outcome _) → Told (r 1) 1 bs o → IfStopped r bs (onward o at_end)
    go (found a n []) t = refl
    go (found a n (b ∷ rest)) t = stops_next r at_end 1 bs t (stops_end a n b rest)
    go (wrong_form n) t = (halts_first r at_end 1 bs end_ahead t).stopped
    go (out_of_range n) t = (halts_first r at_end 1 bs end_ahead t).stopped

pub instance_stops : (m : Limits) (bs : List ℕ) → IfStopped (instance_lines m) bs (whole_file (instance_lines m) bs)
instance_stops m bs = file_stops (instance_lines m) (linewise_instance m) bs

pub plan_stops : (m : Limits) (i : Instance) (bs : List ℕ) → IfStopped (plan_lines m i) bs (whole_file (plan_lines m i) bs)
plan_stops m i bs = file_stops (plan_lines m i) (linewise_plan m i) bs
