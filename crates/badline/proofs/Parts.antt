-- The part that is handed back: by the verdict's number, and within the file that it stands in.
use mathlib.Core.Path.{◌≡◌, sym, subst}
use mathlib.Core.Logic.{◌⊎◌, inl, inr, ⊎_elim}
use mathlib.Core.Bool.{Bool, true, false, cond, ◌||◌}
use mathlib.Core.Option.{Option as Maybe, none, some}
use mathlib.Core.List.{List, [], ◌∷◌}
use Prim.Native.Nat.{ℕ, zero, suc, ◌+◌, ◌≤◌, ◌<◌}
use native.Mathlib.Omega.{arith}
use borrow.Author.Tests.{ne_eqb, eqb-false}
use lib.Dec.{eqb}
use lib.ListN.{length, drop, length-drop}
use Rattle.std.specs.Prelude.{Option, None, Some}
use Rattle.meaning.specs.Text.{count_before}
use Rattle.meaning.specs.BadLine.{Span, line_span, File, in_instance, in_plan, Part, part_or, handed_back}
use Rattle.meaning.proofs.Tests.{decide, eq_reads, or_reads}
use Rattle.text.proofs.Bytes.{count_within}
use Rattle.badline.specs.declared.LineFound.{LineFound}
use Rattle.badline.specs.declared.BadLine.{BadLine}
use Rattle.badline.specs.Located.{span_of, file_of, part_of, part_found}

-- ---- the number chooses the file
-- a number that is one of two neighbours
one_of : (n a : ℕ) → a ≤ n → n < a + 2 → (eqb n a || eqb n (a + 1)) ≡ true
one_of n a low high = (or_reads (eqb n a) (eqb n (a + 1))).1 (⊎_elim (λ e. inl e) (λ e. inr ((eq_reads n (a + 1)).1 (next e))) (decide (eqb n a)))
  where
    next : eqb n a ≡ false → n ≡ a + 1
    next e = omega (arith, eqb-false n a e)

module _ (instance plan : List ℕ) (number line : ℕ) where
  pub of_instance : 4 ≤ number → number < 6 → part_or instance in_instance (line_span line 0 instance) ≡ handed_back instance plan number line
  unfolding handed_back
  of_instance low high = rw (one_of number 4 low high)

  pub of_plan : 7 ≤ number → number < 9 → part_or instance in_plan (line_span line 0 plan) ≡ handed_back instance plan number line
  unfolding handed_back
  of_plan low high =
      let a = ne_eqb number 4 (λ e. omega arith) in
      let b = ne_eqb number 5 (λ e. omega arith) in
      rw (a, b, one_of number 7 low high)

-- where the line was looked for
pub placed : (instance : List ℕ) (found : Option LineFound) (plan : Bool) (s : Maybe Span) → span_of found ≡ s
    → part_found found plan (length instance) ≡ part_or instance (file_of plan) s
placed instance (Some l) plan s e = rw (← e)
placed instance None plan s e = rw (← e)

-- another number
abbrev pub Other : ℕ → Type 0
Other n = (n < 4) ⊎ (((6 ≤ n) × (n < 7)) ⊎ (9 ≤ n))

module _ (instance plan : List ℕ) (number line : ℕ) (other : Other number) where
  apart : (k : ℕ) → ((4 ≤ k) × (k < 6)) ⊎ ((7 ≤ k) × (k < 9)) → eqb number k ≡ false
  apart k range =
      let low : (4 ≤ k) × (k < 9) = ⊎_elim (λ r. (r.0, omega (arith, r.1))) (λ r. (omega (arith, r.0), r.1)) range in
      let mid : k ≡ 6 → ⊥ = λ e. ⊎_elim (λ r. omega (arith, r.1)) (λ r. omega (arith, r.0)) range in
      ne_eqb number k (λ e. ⊎_elim (λ l. omega arith) (λ m. ⊎_elim (λ l. mid (omega (arith, l))) (λ l. omega arith) m) other)

  pub of_neither : part_or instance in_instance none ≡ handed_back instance plan number line
  unfolding handed_back
  of_neither =
      let low : (k : ℕ) → 4 ≤ k → k < 6 → eqb number k ≡ false = λ k a b. apart k (inl (a, b)) in
      let high : (k : ℕ) → 7 ≤ k → k < 9 → eqb number k ≡ false = λ k a b. apart k (inr (a, b)) in
      rw (low 4 (omega arith) (omega arith), low 5 (omega arith) (omega arith), high 7 (omega arith) (omega arith), high 8 (omega arith) (omega arith))

-- ---- the part lies within its file
abbrev file_bytes : List ℕ → List ℕ → File → List ℕ
file_bytes instance plan in_instance = instance
file_bytes instance plan in_plan = plan

pub record Within (instance plan : List ℕ) (q : Part) : Type 0 where
  pub forward : q.span.start ≤ q.span.end
  pub inside : q.span.end ≤ length (file_bytes instance plan q.file)

-- a line lies within the bytes that it was looked for in
abbrev SpanWithin : ℕ → Maybe Span → Type 0
SpanWithin size none = Unit {0}
SpanWithin size (some s) = (s.start ≤ s.end) × (s.end ≤ size)

line_within : (n at : ℕ) (bs : List ℕ) (size : ℕ) → (0 < length bs → at + length bs ≤ size) → SpanWithin size (line_span n at bs)
unfolding line_span
line_within zero at bs size h = tt
line_within (suc n) at [] size h = tt
line_within (suc zero) at (b ∷ bs) size h =
    let w = count_within 10 (b ∷ bs) in
    let k = h (omega arith) in
    (omega arith, omega arith)
line_within (suc (suc n)) at (b ∷ bs) size h =
    let past = suc (count_before 10 (b ∷ bs)) in
    let k = h (omega arith) in
    line_within (suc n) (at + past) (drop past (b ∷ bs)) size (λ more. omega (arith, more, length-drop past (b ∷ bs)))

part_within : (instance plan : List ℕ) (file : File) (s : Maybe Span) → SpanWithin (length (file_bytes instance plan file)) s
    → Within instance plan (part_or instance file s)
part_within instance plan file none h = record { forward = omega arith; inside = omega arith }
part_within instance plan file (some s) h = record { forward = h.0; inside = h.1 }

handed_within : (instance plan : List ℕ) (number line : ℕ) → Within instance plan (handed_back instance plan number line)
unfolding handed_back
handed_within instance plan number line = go (eqb number 4 || eqb number 5) (eqb number 7 || eqb number 8)
  where
    go : (a b : Bool)
        → Within instance plan (cond a (part_or instance in_instance (line_span line 0 instance))
        (cond b (part_or instance in_plan (line_span line 0 plan)) (part_or instance in_instance none)))
    go true b = part_within instance plan in_instance (line_span line 0 instance) (line_within line 0 instance (length instance) (λ more. omega arith))
    go false true = part_within instance plan in_plan (line_span line 0 plan) (line_within line 0 plan (length plan) (λ more. omega arith))
    go false false = part_within instance plan in_instance none tt

-- so does the answer that says it
pub located_within : (instance plan : List ℕ) (number line : ℕ) (r : BadLine) → part_of r ≡ handed_back instance plan number line
    → Within instance plan (part_of r)
located_within instance plan number line r is = subst (Within instance plan) (sym is) (handed_within instance plan number line)

module _ {instance plan : List ℕ} {r : BadLine} (w : Within instance plan (part_of r)) where
  pub within_plan : r.plan ≡ true → r.end ≤ length plan
  within_plan e = rw e at w.inside

  pub within_instance : r.plan ≡ false → r.end ≤ length instance
  within_instance e = rw e at w.inside
