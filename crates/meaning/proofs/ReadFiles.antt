-- Two files are read as an instance and stacks exactly when they are short enough, each is read to its end, and no codes clash.
use mathlib.Core.Path.{◌≡◌, refl, sym, ap₂, subst}
use mathlib.Core.Logic.{◌↔◌}
use mathlib.Core.Bool.{cond}
use mathlib.Core.Option.{Option, none, some}
use mathlib.Core.List.{List, [], ◌∷◌}
use Prim.Native.Nat.{ℕ, ◌≤◌}
use native.Mathlib.Omega.{arith}
use lib.Dec.{ltb}
use lib.ListN.{length}
use Rattle.meaning.specs.declared.Limits.{Limits}
use Rattle.meaning.specs.declared.Place.{Place}
use Rattle.meaning.specs.declared.Answer.{Answer}
use Rattle.meaning.specs.Reader.{Outcome, found, wrong_form, out_of_range, onward, at_end, whole_file}
use Rattle.meaning.specs.Model.{Instance, Stack}
use Rattle.meaning.specs.Files.{instance_lines, plan_lines}
use Rattle.meaning.specs.Places.{lowest}
use Rattle.meaning.specs.Check.{Reading, refused, readable, refused_at, code_clashes, after_plan, after_clash, after_instance, read_files}
use Rattle.meaning.proofs.Tests.{by_less}
use Rattle.meaning.proofs.Lists.{no_cons}
use Rattle.meaning.proofs.Outcomes.{Finds}

-- exactly this value, with nothing left
abbrev pub Wholly : {A : Type 0} → A → A → List ℕ → Type 0
Wholly a b rest = (b ≡ a) × (rest ≡ [])

-- what reading two files as i and p comes to
pub record ReadAs (m : Limits) (instance plan : List ℕ) (i : Instance) (p : List Stack) : Type 0 where
  pub short_instance : length instance ≤ m.bytes
  pub short_plan : length plan ≤ m.bytes
  pub says : Finds (Wholly i) (instance_lines m 1 instance)
  pub no_clash : lowest (code_clashes i) ≡ none
  pub stacks : Finds (Wholly p) (plan_lines m i 1 plan)

refused_not : (a : Answer) (i : Instance) (p : List Stack) → refused a ≡ readable i p → ⊥
refused_not a i p e = let z : ◌≡◌ {A = ℕ} 0 1 = cc in omega arith

module _ (m : Limits) (instance plan : List ℕ) (i : Instance) (p : List Stack) where
  -- step by step from the end: the plan, the codes, the instance, the lengths
  plan_reads : (j : Instance) (r : Outcome (List Stack)) → (after_plan j (onward r at_end) ≡ readable i p) ↔ ((j ≡ i) × Finds (Wholly p) r)
  unfolding after_plan onward at_end
  plan_reads j (found q n []) = ((λ e. (cc, (cc, refl))), (λ h. ap₂ readable h.0 h.1.0))
  plan_reads j (found q n (b ∷ rest)) = ((λ e. absurd (refused_not _ i p e)), (λ h. absurd (no_cons b rest h.1.1)))
  plan_reads j (wrong_form n) = ((λ e. absurd (refused_not _ i p e)), (λ h. absurd h.1))
  plan_reads j (out_of_range n) = ((λ e. absurd (refused_not _ i p e)), (λ h. absurd h.1))

  -- what is asked after the instance
  abbrev Later : Instance → Type 0
  Later j = (lowest (code_clashes j) ≡ none) × Finds (Wholly p) (plan_lines m j 1 plan)

  clash_reads : (j : Instance) (o : Option Place) → (after_clash m j plan o ≡ readable i p) ↔ ((j ≡ i) × (o ≡ none) × Finds (Wholly p) (plan_lines m j 1 plan))
  unfolding after_clash whole_file
  clash_reads j none = let h = plan_reads j (plan_lines m j 1 plan) in ((λ e. let k = h.0 e in (k.0, refl, k.1)), (λ k. h.1 (k.0, k.2)))
  clash_reads j (some q) = ((λ e. absurd (refused_not _ i p e)), (λ k. cc k.1))

  instance_reads : (r : Outcome Instance) → (after_instance m plan (onward r at_end) ≡ readable i p) ↔ (Finds (Wholly i) r × Later i)
  unfolding after_instance onward at_end
  instance_reads (found j n []) =
      let h = clash_reads j (lowest (code_clashes j)) in (
        (λ e. let k = h.0 e in ((k.0, refl), subst Later k.0 (k.1, k.2))),
        (λ k. let later = subst Later (sym k.0.0) k.1 in h.1 (k.0.0, later.0, later.1)),
      )
  instance_reads (found j n (b ∷ rest)) = ((λ e. absurd (refused_not _ i p e)), (λ k. absurd (no_cons b rest k.0.1)))
  instance_reads (wrong_form n) = ((λ e. absurd (refused_not _ i p e)), (λ k. absurd k.0))
  instance_reads (out_of_range n) = ((λ e. absurd (refused_not _ i p e)), (λ k. absurd k.0))

  -- "overlong" is asked of each file before anything is read
  short_reads : (verdict n : ℕ) (r : Reading) → (cond (ltb m.bytes n) (refused_at verdict 0) r ≡ readable i p) ↔ ((n ≤ m.bytes) × (r ≡ readable i p))
  short_reads verdict n r =
      by_less (λ (q : Reading). (q ≡ readable i p) ↔ ((n ≤ m.bytes) × (r ≡ readable i p))) m.bytes n
      (λ long. ((λ k. absurd (refused_not _ i p k)), (λ k. absurd (omega (arith, k.0))))) (λ short. ((λ k. (short, k)), (λ k. k.1)))

  pub read_reads : (read_files m instance plan ≡ readable i p) ↔ ReadAs m instance plan i p
  unfolding read_files whole_file
  read_reads =
      let a = short_reads 2 (length instance) _ in
      let b = short_reads 3 (length plan) _ in
      let c = instance_reads (instance_lines m 1 instance) in (
        (λ e.
            let h = a.0 e in
            let k = b.0 h.1 in
            let t = c.0 k.1 in
            record { short_instance = h.0; short_plan = k.0; says = t.0; no_clash = t.1.0; stacks = t.1.1 }),
        (λ t. a.1 (t.short_instance, b.1 (t.short_plan, c.1 (t.says, (t.no_clash, t.stacks))))),
      )
