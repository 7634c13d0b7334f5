-- A readable plan with its stacks in another order is readable and has the same answer, and each order of the stacks is that of such a plan.
use mathlib.Core.Path.{◌≡◌, refl, sym, ap, ap₂, subst, ◌∙◌}
use mathlib.Core.Logic.{inl, inr, ⊎_elim, ◌↔◌}
use mathlib.Core.Bool.{not}
use mathlib.Core.Option.{Option, some, get_or}
use mathlib.Core.List.{List, [], ◌∷◌, ◌++◌, map, flat_map, append_assoc, map-map, Permᴰ}
use Prim.Native.Nat.{ℕ, zero, suc, ◌+◌, ◌≤◌}
use Prim.Native.String.{String}
use native.Mathlib.Omega.{arith}
use lib.Dec.{leb}
use lib.ListN.{length, length-append}
use Rattle.meaning.specs.declared.Limits.{Limits}
use Rattle.meaning.specs.Lists.{any, all, listed, between, In, Every}
use Rattle.meaning.specs.Text.{line_numbers}
use Rattle.meaning.specs.Reader.{Outcome, found, wrong_form, out_of_range, onward, line}
use Rattle.meaning.specs.Model.{Instance, Stack, number, stack_number}
use Rattle.meaning.specs.Files.{Range, all_within, fields_line, number_line, stack_ranges, stack_line, load_line, stack_lines, plan_lines, ◌to◌}
use Rattle.meaning.specs.Meets.{Meets, StacksMeet}
use Rattle.meaning.specs.Check.{readable, read_files, answer_to, answer}
use Rattle.meaning.specs.Reorder.{LinePair, ended, pair_bytes, plan_of, OneLine, OneLineEach, Reordered}
use Rattle.meaning.specs.Print.{printed_line, printed_stack, printed_plan}
use Rattle.meaning.specs.Claims.{Readable, OrderFree, AnyOrder}
use Rattle.meaning.proofs.Tests.{and_reads, not_reads, le_reads}
use Rattle.meaning.proofs.Lists.{listed_reads}
use Rattle.meaning.proofs.Sums.{length_flat_map}
use Rattle.meaning.proofs.Permute.{perm_induct, perm_same, every_perm, length_perm, sum_perm, map_perm}
use Rattle.meaning.proofs.Outcomes.{Leaves, Finds, leaves_onward, leaves_map, OfLine, leaves_ended, finds_ended}
use Rattle.meaning.proofs.ReadFiles.{Wholly, read_reads}
use Rattle.meaning.proofs.ReadBack.{line_one}
use Rattle.meaning.proofs.Printed.{read_printed_lem}
use Rattle.meaning.proofs.VerdictOrder.{verdict_perm}

-- ---- ranges of stacks in another order
-- a stack's number is not earlier before it
free : (trucks : ℕ) (earlier ns : List ℕ) → Meets (stack_line trucks earlier) ns → In (stack_number ns) earlier → ⊥
free trucks earlier ns h m =
    let k = (and_reads (all_within (stack_ranges trucks) ns) (not (listed (stack_number ns) earlier))).0 h.fits in
    (not_reads (listed (stack_number ns) earlier)).0 k.1 ((listed_reads (stack_number ns) earlier).1 m)

-- which is all that the stacks before it decide
meets_stack : (trucks : ℕ) (earlier earlier' ns : List ℕ) → Meets (stack_line trucks earlier) ns → (In (stack_number ns) earlier' → ⊥) → Meets (stack_line trucks earlier') ns
meets_stack trucks earlier earlier' ns h f =
    let k = (and_reads (all_within (stack_ranges trucks) ns) (not (listed (stack_number ns) earlier))).0 h.fits in
    let new = (not_reads (listed (stack_number ns) earlier')).1 (λ e. f ((listed_reads (stack_number ns) earlier').0 e)) in
    record { least = h.least; most = h.most; fits = (and_reads (all_within (stack_ranges trucks) ns) (not (listed (stack_number ns) earlier'))).1 (k.0, new) }

-- likewise of a load: there is room for it
room : (most items loaded : ℕ) (ns : List ℕ) → Meets (load_line most items loaded) ns → loaded + length ns ≤ most
room most items loaded ns h = (le_reads _ _).0 ((and_reads (all (between 1 items) ns) (leb (loaded + length ns) most)).0 h.fits).1

meets_load : (most items loaded loaded' : ℕ) (ns : List ℕ) → Meets (load_line most items loaded) ns → loaded' + length ns ≤ most → Meets (load_line most items loaded') ns
meets_load most items loaded loaded' ns h k =
    let e = ((and_reads (all (between 1 items) ns) (leb (loaded + length ns) most)).0 h.fits).0 in
    record { least = h.least; most = h.most; fits = (and_reads (all (between 1 items) ns) (leb (loaded' + length ns) most)).1 (e, (le_reads _ _).1 k) }

module _ (most items trucks : ℕ) where
  abbrev Stacks : List ℕ → ℕ → List Stack → Type 0
  Stacks = StacksMeet most items trucks

  -- stacks stay in range where fewer numbers are earlier
  fewer_earlier : (earlier earlier' : List ℕ) → ((n : ℕ) → In n earlier' → In n earlier) → (loaded : ℕ) (p : List Stack) → Stacks earlier loaded p → Stacks earlier' loaded p
  fewer_earlier earlier earlier' f loaded [] h = tt
  fewer_earlier earlier earlier' f loaded (s ∷ p) h = (
    meets_stack trucks earlier earlier' s.fields h.0 (λ m. free trucks earlier s.fields h.0 (f (number s) m)),
    h.1,
    fewer_earlier (number s ∷ earlier) (number s ∷ earlier') (λ n. ⊎_elim (λ e. inl e) (λ m. inr (f n m))) (loaded + length s.load) p h.2,
  )

  exchanged : (a b : Stack) (p : List Stack) (earlier : List ℕ) (loaded : ℕ) → Stacks earlier loaded (a ∷ b ∷ p) → Stacks earlier loaded (b ∷ a ∷ p)
  exchanged a b p earlier loaded h =
      let full = room most items (loaded + length a.load) b.load h.2.1 in
      let other = free trucks (number a ∷ earlier) b.fields h.2.0 in
      let sums : loaded + length a.load + length b.load ≡ loaded + length b.load + length a.load = omega arith in (
        meets_stack trucks (number a ∷ earlier) earlier b.fields h.2.0 (λ m. other (inr m)),
        meets_load most items (loaded + length a.load) loaded b.load h.2.1 (omega arith),
        (
          meets_stack trucks earlier (number b ∷ earlier) a.fields h.0 (⊎_elim (λ e. other (inl (sym e))) (free trucks earlier a.fields h.0)),
          meets_load most items loaded (loaded + length b.load) a.load h.1 (omega arith),
          fewer_earlier (number b ∷ number a ∷ earlier) (number a ∷ number b ∷ earlier) (perm_same (mathlib.Core.List.Permᴰ.swap {l = earlier} refl refl)).1
              (loaded + length b.load + length a.load) p (subst (λ n. Stacks (number b ∷ number a ∷ earlier) n p) sums h.2.2),
        ),
      )

  in_range_perm : (p p' : List Stack) → Permᴰ p p' → (earlier : List ℕ) (loaded : ℕ) → Stacks earlier loaded p → Stacks earlier loaded p'
  in_range_perm p p' =
      perm_induct (λ p p'. (earlier : List ℕ) (loaded : ℕ) → Stacks earlier loaded p → Stacks earlier loaded p') (λ earlier loaded h. h)
      (λ s p p' k rec earlier loaded h. (h.0, h.1, rec (number s ∷ earlier) (loaded + length s.load) h.2))
      exchanged (λ p q r k k' earlier loaded h. k' earlier loaded (k earlier loaded h))

-- ---- what two lines say
abbrev or_none : Option (List ℕ) → List ℕ
or_none o = get_or o []

-- the stack of a pair of lines
stack_of : LinePair → Stack
stack_of b = record { fields = or_none (line_numbers "stack=" b.stack_line); load = or_none (line_numbers "load=" b.load_line) }

record Says (b : LinePair) (s : Stack) : Type 0 where
  fields : line_numbers "stack=" b.stack_line ≡ some s.fields
  load : line_numbers "load=" b.load_line ≡ some s.load

-- both lines of a pair have numbers
abbrev Speaks : LinePair → Type 0
Speaks b = Says b (stack_of b)

says_one : (b : LinePair) (s : Stack) → Says b s → s ≡ stack_of b
unfolding stack_of
says_one b s h = λ j. record { fields = sym (ap or_none h.fields) j; load = sym (ap or_none h.load) j }

-- ---- reading the stacks of pairs
no_pair : (b : LinePair) (bs : List LinePair) → flat_map pair_bytes (b ∷ bs) ≡ [] → ⊥
unfolding flat_map
no_pair b bs e = omega (arith, simp length-append at (ap length e))

module _ (most items trucks : ℕ) where
  -- where no bytes are left, each pair was read as its stack
  abbrev AllRead : ℕ → List ℕ → ℕ → List LinePair → List Stack → List ℕ → Type 0
  AllRead count earlier loaded bs p rest =
      rest ≡ [] → (count ≡ length bs) × (p ≡ map stack_of bs) × Every Speaks bs × StacksMeet most items trucks earlier loaded p

  leaves_stacks : (count : ℕ) (earlier : List ℕ) (loaded n : ℕ) (bs : List LinePair) (text : List ℕ) → Every OneLineEach bs → text ≡ flat_map pair_bytes bs
      → Leaves (AllRead count earlier loaded bs) (stack_lines most items trucks count earlier loaded n text)
  unfolding stack_lines flat_map
  leaves_stacks zero earlier loaded n [] text w e = λ z. (refl, refl, tt, tt)
  leaves_stacks zero earlier loaded n (b ∷ bs) text w e = λ z. absurd (no_pair b bs (sym e ∙ z))
  leaves_stacks (suc count) earlier loaded n [] text w e = rw e tt
  leaves_stacks (suc count) earlier loaded n (b ∷ bs) text w e =
      let after = flat_map pair_bytes bs in
      let form = stack_line trucks earlier in
      let form' = load_line most items loaded in
      let joined : text ≡ ended b.stack_line ++ (ended b.load_line ++ after) = e ∙ append_assoc (ended b.stack_line) (ended b.load_line) after in
      leaves_onward (OfLine form b.stack_line (ended b.load_line ++ after)) (AllRead (suc count) earlier loaded (b ∷ bs)) (line form n text) _
      (leaves_ended form b.stack_line (ended b.load_line ++ after) text n w.0.stack_line joined) (λ fields n₁ left k.
      leaves_onward (OfLine form' b.load_line after) (AllRead (suc count) earlier loaded (b ∷ bs)) (line form' n₁ left) _
      (leaves_ended form' b.load_line after left n₁ w.0.load_line k.2) (λ load n₂ left' k'.
      let earlier' = stack_number fields ∷ earlier in
      let loaded' = loaded + length load in
      leaves_onward (AllRead count earlier' loaded' bs) (AllRead (suc count) earlier loaded (b ∷ bs)) (stack_lines most items trucks count earlier' loaded' n₂ left') _
      (leaves_stacks count earlier' loaded' n₂ bs left' w.1 k'.2) (λ p n₃ rest rec z.
      let t = rec z in
      let s : Stack = record { fields = fields; load = load } in
      let said : Says b s = record { fields = k.0; load = k'.0 } in
      let q : s ≡ stack_of b = says_one b s said in
      (ap suc t.0, ap₂ (λ (a : Stack) (r : List Stack). a ∷ r) q t.1, (subst (Says b) q said, t.2), (k.1, k'.1, t.3)))))

  -- and back: pairs whose stacks are in range are read as those stacks
  finds_stacks : (earlier : List ℕ) (loaded n : ℕ) (bs : List LinePair) → Every OneLineEach bs → Every Speaks bs
      → StacksMeet most items trucks earlier loaded (map stack_of bs)
      → (last : ℕ) × (stack_lines most items trucks (length bs) earlier loaded n (flat_map pair_bytes bs) ≡ found (map stack_of bs) last [])
  unfolding stack_lines flat_map onward
  finds_stacks earlier loaded n [] w d h = (n, refl)
  finds_stacks earlier loaded n (b ∷ bs) w d h =
      let after = flat_map pair_bytes bs in
      let t = finds_stacks (number (stack_of b) ∷ earlier) (loaded + length (stack_of b).load) (suc (suc n)) bs w.1 d.1 h.2 in (
        t.0,
        rw (
          append_assoc (ended b.stack_line) (ended b.load_line) after,
          finds_ended (stack_line trucks earlier) b.stack_line (ended b.load_line ++ after) n (stack_of b).fields w.0.stack_line d.0.fields h.0,
          finds_ended (load_line most items loaded) b.load_line after (suc n) (stack_of b).load w.0.load_line d.0.load h.1,
          t.1,
        ),
      )

-- ---- the whole plan
-- a line with one number is read alike, whatever follows it
number_alike : (key : String) (r : Range) (l rest : List ℕ) (n : ℕ) → OneLine l
    → Leaves (λ c left. (left ≡ rest) × ((rest' : List ℕ) → number_line key r n (ended l ++ rest') ≡ found c (suc n) rest')) (number_line key r n (ended l ++ rest))
unfolding number_line onward
number_alike key r l rest n h =
    let form = fields_line key (r ∷ []) in
    leaves_onward (OfLine form l rest) _ (line form n (ended l ++ rest)) _ (leaves_ended form l rest (ended l ++ rest) n h refl) (λ ns n₁ left k.
    (k.2, λ rest'. rw (finds_ended form l rest' n ns h k.0 k.1)))

-- what is found has both properties
leaves_finds : {A : Type 0} (P Q : A → List ℕ → Type 0) (r : Outcome A) → Leaves P r → Finds Q r → (a : A) × (rest : List ℕ) × P a rest × Q a rest
leaves_finds P Q (found a n rest) h k = (a, rest, h, k)
leaves_finds P Q (wrong_form n) h k = absurd k
leaves_finds P Q (out_of_range n) h k = absurd k

-- pairs `bs` behind a first line, and the same pairs in another order `bs'`
module _ (first : List ℕ) (bs bs' : List LinePair) (h : Permᴰ bs bs') where
  -- as many bytes
  length_moved : length (plan_of first bs) ≡ length (plan_of first bs')
  unfolding plan_of
  length_moved =
      length-append (ended first) (flat_map pair_bytes bs)
      ∙ ap (λ k. length (ended first) + k) (length_flat_map pair_bytes bs ∙ sum_perm _ h ∙ sym (length_flat_map pair_bytes bs'))
      ∙ sym (length-append (ended first) (flat_map pair_bytes bs'))

  module _ (o : OneLine first) (w : Every OneLineEach bs) (m : Limits) (i : Instance) where
    -- one plan is read as what its pairs say, and then so is the other
    abbrev Follows : List Stack → List ℕ → Type 0
    Follows p rest = rest ≡ [] → (p ≡ map stack_of bs) × Finds (Wholly (map stack_of bs')) (plan_lines m i 1 (plan_of first bs'))

    plan_follows : Leaves Follows (plan_lines m i 1 (plan_of first bs))
    unfolding plan_lines plan_of onward
    plan_follows =
        let items = length i.items in
        let trucks = length i.trucks in
        leaves_onward _ Follows (number_line "stacks=" (0 to m.stacks) 1 (plan_of first bs)) _
        (number_alike "stacks=" (0 to m.stacks) first (flat_map pair_bytes bs) 1 o) (λ c n rest k.
        leaves_map (AllRead m.loads items trucks c [] 0 bs) Follows (λ p rest' s z.
        let t = s z in
        let fit = in_range_perm m.loads items trucks (map stack_of bs) (map stack_of bs') (map_perm stack_of h) [] 0 (rw t.1 at t.3) in
        let u = finds_stacks m.loads items trucks [] 0 2 bs' (every_perm OneLineEach h w) (every_perm Speaks h t.2) fit in
        (t.1, rw (k.1 (flat_map pair_bytes bs'), t.0, length_perm h, u.1) (refl, refl)))
        (stack_lines m.loads items trucks c [] 0 n rest) (leaves_stacks m.loads items trucks c [] 0 n bs rest w k.0))

-- a readable plan is read pair by pair, and so is a plan with these pairs in another order
reordered_read : (m : Limits) (instance plan plan' : List ℕ) (a : Readable m instance plan) (r : Reordered plan plan')
    → (a.stacks ≡ map stack_of r.pairs) × (read_files m instance plan' ≡ readable a.says (map stack_of r.moved))
reordered_read m instance plan plan' a r =
    let h = (read_reads m instance plan a.says a.stacks).0 a.read in
    let before = subst (λ (bs : List ℕ). Finds (Wholly a.stacks) (plan_lines m a.says 1 bs)) r.is_before h.stacks in
    let follows = plan_follows r.first r.pairs r.moved r.permuted r.first_is_line r.pairs_are_lines m a.says in
    let t = leaves_finds _ _ (plan_lines m a.says 1 (plan_of r.first r.pairs)) follows before in
    let u = t.2 t.3.1 in
    let size : length plan ≡ length plan' = rw (r.is_before, r.is_after) (length_moved r.first r.pairs r.moved r.permuted) in (
      sym t.3.0 ∙ u.0,
      (read_reads m instance plan' a.says (map stack_of r.moved)).1 (record {
        short_instance = h.short_instance;
        short_plan = omega (arith, h.short_plan);
        says = h.says;
        no_clash = h.no_clash;
        stacks = rw r.is_after u.1;
      }),
    )

pub order_free_lem : (m : Limits) → OrderFree m
unfolding answer answer_to
order_free_lem m tableLength instance plan plan' a r =
    let t = reordered_read m instance plan plan' a r in
    let moved : Permᴰ a.stacks (map stack_of r.moved) = rw t.0 (map_perm stack_of r.permuted) in
    (record { says = a.says; stacks = map stack_of r.moved; read = t.1 }, rw (t.1, a.read, verdict_perm a.says a.stacks (map stack_of r.moved) moved))

-- ---- plans written out in any order
pairs_one : (p : List Stack) → Every OneLineEach (map printed_stack p)
unfolding any
pairs_one [] = tt
pairs_one (s ∷ p) = (record { stack_line = line_one "stack=" s.fields refl; load_line = line_one "load=" s.load refl }, pairs_one p)

printed_reordered : (plan : List ℕ) (p p' : List Stack) → plan ≡ printed_plan p → Permᴰ p p' → Reordered plan (printed_plan p')
unfolding printed_plan any
printed_reordered plan p p' e h =
    record {
      first = printed_line "stacks=" (length p ∷ []);
      pairs = map printed_stack p;
      moved = map printed_stack p';
      first_is_line = line_one "stacks=" (length p ∷ []) refl;
      pairs_are_lines = pairs_one p;
      permuted = map_perm printed_stack h;
      is_before = e;
      is_after = rw (length_perm h);
    }

-- a map leaves a list as it is exactly when it leaves each of its elements
map_leaves : {A : Type 0} (f : A → A) (l : List A) → (l ≡ map f l) ↔ Every (λ a. a ≡ f a) l
map_leaves f [] = ((λ e. tt), (λ h. refl))
map_leaves f (a ∷ l) = (
  (λ e. let first : a ≡ f a = cc in let rest : l ≡ map f l = cc in (first, (map_leaves f l).0 rest)),
  (λ h. ap₂ (λ b m. b ∷ m) h.0 ((map_leaves f l).1 h.1)),
)

-- a stack that was read is what its written lines say, so the stacks in another order are read as themselves
pub any_order : (m : Limits) → AnyOrder m
unfolding printed_reordered
any_order m instance plan a p' h =
    let p = a.stacks in
    let back : Stack → Stack = λ s. stack_of (printed_stack s) in
    let r = printed_reordered plan p p' (read_printed_lem m instance plan a).stacks h in
    let t = reordered_read m instance plan (printed_plan p') a r in
    let left = every_perm (λ (s : Stack). s ≡ back s) h ((map_leaves back p).0 (t.0 ∙ map-map stack_of printed_stack p)) in
    record { reordered = r; read = t.1 ∙ ap (readable a.says) (map-map stack_of printed_stack p' ∙ sym ((map_leaves back p').1 left)) }
