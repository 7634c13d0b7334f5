-- The verdict rule by rule: accepted exactly when no rule lists a place, otherwise the first broken rule at its lowest place.
use mathlib.Core.Path.{◌≡◌, refl, sym, ap, ◌∙◌}
use mathlib.Core.Logic.{inl, inr}
use mathlib.Core.Option.{Option, none, some}
use mathlib.Core.List.{List, [], ◌∷◌, ◌++◌, append-nil}
use Prim.Native.Nat.{ℕ, ◌≤◌}
use native.Mathlib.Omega.{arith}
use lib.ListN.{length}
use Rattle.meaning.specs.declared.Place.{Place}
use Rattle.meaning.specs.declared.Answer.{Answer}
use Rattle.meaning.specs.Lists.{Every}
use Rattle.meaning.specs.Places.{lowest, lower_of}
use Rattle.meaning.specs.Model.{Instance, Stack}
use Rattle.meaning.specs.Measures.{used_trucks}
use Rattle.meaning.specs.Rules.{Rule, loading_rules, rules}
use Rattle.meaning.specs.Verdict.{acceptance, refusal, broken_or, first_broken, cost, verdict_on}
use Rattle.meaning.specs.Claims.{IsLowest, KeptBy, AcceptedExactly, FirstBroken, RefusedExactly, NoneOf1To8}
use Rattle.meaning.proofs.Lists.{no_cons}
use Rattle.meaning.proofs.Permute.{same_refl}
use Rattle.meaning.proofs.Lowest.{lowest_is, lowest_one}

-- number 0 accepts and 1 to 8 are of reading, so no rule has one of them
abbrev Numbered : Rule → Type 0
Numbered r = 9 ≤ r.verdict

numbered : Every Numbered rules
unfolding rules
numbered = omega arith

-- a rule that lists a place answers with its number
own_number : (n : ℕ) (q : Place) (o : Option Place) (later : Answer) → (broken_or n (lower_of q o) later).number ≡ n
unfolding broken_or lower_of
own_number n q none later = refl
own_number n q (some r) later = refl

-- so where the answer has number 0, the rule lists no place and the later rules gave that answer
no_place : (n : ℕ) (l : List Place) (later : Answer) → 9 ≤ n → (broken_or n (lowest l) later).number ≡ 0 → (l ≡ []) × (later.number ≡ 0)
unfolding broken_or lowest
no_place n [] later h e = (refl, e)
no_place n (q ∷ l) later h e = absurd (omega (arith, h, e, own_number n q (lowest l) later))

-- either way the answer has no number of reading
either_number : (n : ℕ) (o : Option Place) (later : Answer) → 9 ≤ n → NoneOf1To8 later.number → NoneOf1To8 (broken_or n o later).number
unfolding broken_or
either_number n none later h k = k
either_number n (some q) later h k = inr h

module _ (i : Instance) (p : List Stack) (accepted : Answer) where
  -- rules that are kept leave the answer to the rules after them
  after_kept : (before after : List Rule) → Every (KeptBy i p) before → first_broken (before ++ after) i p accepted ≡ first_broken after i p accepted
  unfolding first_broken
  after_kept [] after h = refl
  after_kept (r ∷ before) after h =
      ap (λ (l : List Place). broken_or r.verdict (lowest l) (first_broken (before ++ after) i p accepted)) h.0 ∙ after_kept before after h.1

  -- where all rules are kept, the answer is `accepted`
  all_kept_lem : (rs : List Rule) → Every (KeptBy i p) rs → first_broken rs i p accepted ≡ accepted
  unfolding first_broken
  all_kept_lem rs h = ap (λ (l : List Rule). first_broken l i p accepted) (sym (append-nil rs)) ∙ after_kept rs [] h

  -- and number 0 is answered only then
  none_broken : (rs : List Rule) → Every Numbered rs → (first_broken rs i p accepted).number ≡ 0 → Every (KeptBy i p) rs
  unfolding first_broken
  none_broken [] h e = tt
  none_broken (r ∷ rs) h e =
      let k = no_place r.verdict (r.places i p) (first_broken rs i p accepted) h.0 e in
      (k.0, none_broken rs h.1 k.1)

  -- an answer other than `accepted` has the number of a rule
  kept_or_numbered : (rs : List Rule) → Every Numbered rs → accepted.number ≡ 0 → NoneOf1To8 (first_broken rs i p accepted).number
  unfolding first_broken
  kept_or_numbered [] h e = inl e
  kept_or_numbered (r ∷ rs) h e = either_number r.verdict (lowest (r.places i p)) (first_broken rs i p accepted) h.0 (kept_or_numbered rs h.1 e)

-- the answer of a plan that keeps every rule
abbrev pub kept_answer : Instance → List Stack → Answer
kept_answer i p = acceptance (cost i p) (length (used_trucks p))

pub verdict_number : (i : Instance) (p : List Stack) → NoneOf1To8 (verdict_on i p).number
unfolding verdict_on
verdict_number i p = kept_or_numbered i p (kept_answer i p) rules numbered refl

pub accepted_exactly_lem : (i : Instance) (p : List Stack) → AcceptedExactly i p (verdict_on i p)
unfolding verdict_on
accepted_exactly_lem i p =
    let answered = all_kept_lem i p (kept_answer i p) rules in
    record {
      exactly = (none_broken i p (kept_answer i p) rules numbered, λ h. ap (λ (a : Answer). a.number) (answered h));
      accepts = λ h. rw (answered h) (record { number = refl; first = refl; second = refl; third = refl; cost = refl; trucks = refl });
    }

-- the same for the rules but 9
pub loading_kept : (i : Instance) (p : List Stack) → (first_broken loading_rules i p (kept_answer i p)).number ≡ 0 → Every (KeptBy i p) loading_rules
unfolding rules
loading_kept i p = none_broken i p (kept_answer i p) loading_rules numbered.1

-- ---- the first broken rule
-- where not all rules are kept, one of them is the first that is not
first_broken_lem : (i : Instance) (p : List Stack) (rs : List Rule) → (Every (KeptBy i p) rs → ⊥) → FirstBroken rs i p
first_broken_lem i p [] h = absurd (h tt)
first_broken_lem i p (r ∷ rs) h = go (first_broken_lem i p rs) (r.places i p) refl
  where
    here : (o : Option Place) → IsLowest (r.places i p) o → (r.places i p ≡ [] → ⊥) → FirstBroken (r ∷ rs) i p
    here none low d = absurd (d low)
    here (some q) low d = record { before = []; broken = r; after = rs; place = q; order = refl; kept = tt; lowest = low }

    go : ((Every (KeptBy i p) rs → ⊥) → FirstBroken rs i p) → (ps : List Place) → r.places i p ≡ ps → FirstBroken (r ∷ rs) i p
    go later [] e =
        let f = later (λ k. h (e, k)) in
        record {
          before = r ∷ f.before;
          broken = f.broken;
          after = f.after;
          place = f.place;
          order = ap (λ (l : List Rule). r ∷ l) f.order;
          kept = (e, f.kept);
          lowest = f.lowest;
        }
    go later (q ∷ ps) e = here (lowest (r.places i p)) (lowest_is (r.places i p)) (λ z. no_cons q ps (sym e ∙ z))

-- and it refuses, at its lowest place
broken_answers : (i : Instance) (p : List Stack) (f : FirstBroken rules i p) → verdict_on i p ≡ refusal f.broken.verdict f.place
unfolding verdict_on first_broken broken_or
broken_answers i p f =
    let ps = f.broken.places i p in
    ap (λ (rs : List Rule). first_broken rs i p (kept_answer i p)) f.order
    ∙ after_kept i p (kept_answer i p) f.before (f.broken ∷ f.after) f.kept
    ∙ ap (λ (o : Option Place). broken_or f.broken.verdict o (first_broken f.after i p (kept_answer i p)))
    (lowest_one ps ps (lowest ps) (some f.place) (same_refl ps) (lowest_is ps) f.lowest)

pub refused_exactly_lem : (i : Instance) (p : List Stack) → RefusedExactly i p (verdict_on i p)
refused_exactly_lem i p =
    record {
      broken = λ d. first_broken_lem i p rules (λ h. d ((accepted_exactly_lem i p).exactly.1 h));
      refuses = λ f. rw (broken_answers i p f) (record { number = refl; first = refl; second = refl; third = refl; cost = refl; trucks = refl });
    }
