-- From one answer to the next: readers one after another, and the same reader some times over, for callers that hand an answer on.
use mathlib.Core.Path.{◌≡◌, refl, sym, ap, subst, ◌∙◌}
use mathlib.Core.List.{List, [], ◌∷◌, ◌++◌, append_assoc, append-nil}
use Prim.Native.Nat.{ℕ, zero, suc}
use lib.ListN.{length, drop}
use Rattle.meaning.specs.Text.{Form}
use Rattle.meaning.specs.Reader.{Outcome, found, wrong_form, out_of_range, Reader, give, onward, ◌>>=◌, line, times}
use Rattle.meaning.specs.Meets.{Meets}
use Rattle.meaning.proofs.Outcomes.{Leaves, leaves_onward, leaves_line}
use Rattle.std.specs.Prelude.{Ok, Err, IsErrAnd}
use Rattle.lines.specs.declared.LineRefused.{LineRefused}
use Rattle.lines.specs.declared.LineRefused.TheVariants.{WrongForm, OutOfRange}
use Rattle.lines.specs.Progress.{Progress, outcome_of, reached, resumed, Going, Follows, ReadInto}

-- ---- outcomes
-- going on in the same way
pub onward_same : {A B : Type 0} (x : Outcome A) (f g : A → Reader B) → ((a : A) (n : ℕ) (bs : List ℕ) → f a n bs ≡ g a n bs) → onward x f ≡ onward x g
unfolding onward
onward_same (found a n bs) f g h = h a n bs
onward_same (wrong_form n) f g h = refl
onward_same (out_of_range n) f g h = refl

-- going on twice
pub onward_twice : {A B C : Type 0} (x : Outcome A) (f : A → Reader B) (g : B → Reader C)
    → onward (onward x f) g ≡ onward x (λ a n bs. onward (f a n bs) g)
unfolding onward
onward_twice (found a n bs) f g = refl
onward_twice (wrong_form n) f g = refl
onward_twice (out_of_range n) f g = refl

-- a block within a block
pub regroup : {A B C : Type 0} (x : Outcome A) (inner : A → Reader B) (next : B → Reader C) (both : A → Reader C)
    → ((a : A) (n : ℕ) (bs : List ℕ) → onward (inner a n bs) next ≡ both a n bs) → onward (onward x inner) next ≡ onward x both
regroup x inner next both e = onward_twice x inner next ∙ onward_same x _ both e

-- going on without reading changes nothing
pub onward_give : {A : Type 0} (x : Outcome A) → onward x (λ a n bs. found a n bs) ≡ x
unfolding onward
onward_give (found a n bs) = refl
onward_give (wrong_form n) = refl
onward_give (out_of_range n) = refl

-- a refusal stays as it is
pub onward_refused : {A B : Type 0} (e : LineRefused) (f : A → Reader B) → onward (outcome_of e) f ≡ outcome_of e
unfolding onward
onward_refused (WrongForm n) f = refl
onward_refused (OutOfRange n) f = refl

-- what comes behind a reader, whatever that finds
pub leaves_then : {A B : Type 0} (P : B → Type 0) (x : Outcome A) (next : A → Reader B) → ((a : A) (n : ℕ) (bs : List ℕ) → Leaves (λ b rest. P b) (next a n bs))
    → Leaves (λ b rest. P b) (onward x next)
unfolding onward
leaves_then P (found a n bs) next h = h a n bs
leaves_then P (wrong_form n) next h = tt
leaves_then P (out_of_range n) next h = tt

-- ---- the same file
pub follows_self : (p : Progress) → Follows p p
follows_self (Ok c) = refl
follows_self (Err e) = refl

-- further on, and then further still
pub follows_on : (p q r : Progress) → Follows p q → Follows q r → Follows p r
follows_on (Ok c) (Ok d) (Ok x) h k = k ∙ h
follows_on (Ok c) (Ok d) (Err e) h k = rw (← h) k
follows_on (Ok c) (Err e) r h k = rw k h
follows_on (Err e) q r h k = rw h at k

-- ---- one reader after another
module _ {A : Type 0} where
  -- from what is reached on, the value is known
  pub onward_reached : {B : Type 0} (a : A) (q : Progress) (next : A → Reader B) → onward (reached a q) next ≡ resumed q (next a)
  unfolding onward
  onward_reached a (Ok c) next = refl
  onward_reached a (Err e) next = onward_refused e next

  -- past the first reader of a block
  pub past_reader : {B : Type 0} (p q : Progress) (a : A) (reader : Reader A) (next : A → Reader B) → reached a q ≡ resumed p reader
      → resumed p (reader >>= next) ≡ resumed q (next a)
  unfolding onward
  past_reader {B} (Ok c) q a reader next e = ap {B = Outcome B} (λ x. onward x next) (sym e) ∙ onward_reached a q next
  past_reader {B} (Err r) q a reader next e = sym (onward_refused r next) ∙ ap {B = Outcome B} (λ x. onward x next) (sym e) ∙ onward_reached a q next

  -- a block that only gives a value has reached it
  pub given_reached : (a : A) (q : Progress) → resumed q (give a) ≡ reached a q
  given_reached a (Ok c) = refl
  given_reached a (Err e) = refl

-- a block whose first reader is resumed
pub resumed_onward : {A B : Type 0} (p : Progress) (reader : Reader A) (next : A → Reader B) → onward (resumed p reader) next ≡ resumed p (reader >>= next)
resumed_onward (Ok c) reader next = refl
resumed_onward (Err e) reader next = onward_refused e next

-- a refusal stays: where none came out, none came in
going_before : {B : Type 0} (b : B) (p q : Progress) (R : Reader B) → reached b q ≡ resumed p R → Going q → Going p
going_before b (Ok c) q R e g = tt
going_before b (Err (WrongForm n)) (Ok d) R e g = cc
going_before b (Err (OutOfRange n)) (Ok d) R e g = cc
going_before b (Err r) (Err r') R e g = g

pub no_refusal : {A : Type 0} {reader : Reader A} {words : A → List ℕ} {p q : Progress} {out : List ℕ}
    → ReadInto reader words p q out → Going q → Going p
no_refusal {reader = reader} {p = p} {q = q} i g = going_before i.value p q reader i.says g

-- after a refusal the value does not matter
pub same_reached : {A : Type 0} (a b : A) (p : Progress) → (Going p → a ≡ b) → reached a p ≡ reached b p
same_reached a b (Ok c) h = rw (h tt) refl
same_reached a b (Err e) h = refl

-- nor does the reader
pub same_resumed : {A : Type 0} (p : Progress) (reader reader' : Reader A) → (Going p → reader ≡ reader')
    → resumed p reader ≡ resumed p reader'
same_resumed {A} (Ok c) reader reader' h = ap (λ (r : Reader A). r (suc c.line) (drop c.at c.file.now)) (h tt)
same_resumed (Err e) reader reader' h = refl

-- what a reader always leaves is so of what was read
pub read_has : {A : Type 0} (a : A) (P : A → Type 0) (p q : Progress) (reader : Reader A) → ((n : ℕ) (bs : List ℕ) → Leaves (λ x rest. P x) (reader n bs))
    → reached a q ≡ resumed p reader → Going q → P a
read_has a P (Ok c) (Ok d) reader h e g = subst (Leaves (λ x rest. P x)) (sym e) (h (suc c.line) (drop c.at c.file.now))
read_has a P (Ok c) (Err r) reader h e g = absurd g
read_has a P (Err r) q reader h e g = absurd (going_before a (Err r) q reader e g)

-- the entries of a line that was not refused meet its form
pub read_meets : (ns : List ℕ) (f : Form) (p r : Progress) → reached ns r ≡ resumed p (line f) → Going r → Meets f ns
read_meets ns f p r e g = read_has ns (Meets f) p r (line f) (λ n bs. leaves_line f _ n bs (λ l rest ms s t m. m)) e g

-- what is read into a part is read into the whole
pub read_within : {A : Type 0} (reader : Reader A) (words : A → List ℕ) (p r : Progress) (out : List ℕ) (whole : List ℕ → List ℕ)
    → ReadInto reader words p r out → ReadInto reader (λ a. whole (words a)) p r (whole out)
read_within reader words p r out whole i =
    record { value = i.value; says = i.says; holds = λ g. ap whole (i.holds g); follows = i.follows }

-- ---- a reader and then those behind it
-- what is read behind the first reader is read from where that began
abbrev pub behind : {A B : Type 0} {R : Reader A} {w : A → List ℕ} {p q : Progress} {front : List ℕ} (first : ReadInto R w p q front)
    (next : A → Reader B) → {w' : B → List ℕ} {r : Progress} {out : List ℕ} → ReadInto (next first.value) w' q r out → ReadInto (R >>= next) w' p r out
behind {R = R} {p = p} {q = q} first next rest = record {
  value = rest.value;
  says = rest.says ∙ sym (past_reader p q first.value R next first.says);
  holds = rest.holds;
  follows = follows_on p q _ first.follows rest.follows;
}

-- nothing is read behind the last one
abbrev pub behind_last : {A B : Type 0} {R : Reader A} {w : A → List ℕ} {p q : Progress} {front : List ℕ} (last : ReadInto R w p q front)
    (f : A → B) → {w' : B → List ℕ} {out : List ℕ} → (Going q → out ≡ w' (f last.value)) → ReadInto (R >>= λ a. give (f a)) w' p q out
behind_last {R = R} {p = p} {q = q} last f stands = record {
  value = f last.value;
  says = sym (past_reader p q last.value R (λ a. give (f a)) last.says ∙ given_reached (f last.value) q);
  holds = stands;
  follows = last.follows;
}

-- a refusal of the first reader is one of all, and nothing is said of the words then
pub stopped : {A B : Type 0} {R : Reader A} {w : A → List ℕ} {p : Progress} {e : LineRefused} {front : List ℕ}
    → ReadInto R w p (Err e) front → (next : A → Reader B) → B → {w' : B → List ℕ} {out : List ℕ} → ReadInto (R >>= next) w' p (Err e) out
stopped {R = R} {p = p} {e = e} first next b = record {
  value = b;
  says = sym (past_reader p (Err e) first.value R next first.says);
  holds = λ g. absurd g;
  follows = first.follows;
}

-- what a `?` hands on is the refusal
pub handed_on : {A : Type 0} {R : Reader A} {w : A → List ℕ} {p r : Progress} {e : LineRefused} {out : List ℕ}
    → IsErrAnd r (λ x. x ≡ e) → ReadInto R w p (Err e) out → ReadInto R w p r out
handed_on {r = Ok c} h i = absurd h
handed_on {r = Err x} h i = rw h i

-- ---- the same reader some times over
module _ {A : Type 0} (R : Reader A) where
  -- m times more, behind the values that were read
  abbrev pub more : ℕ → List A → Reader (List A)
  more m vs n bs = onward (times m R n bs) (λ rest n bs. found (vs ++ rest) n bs)

  leaves_times : (k n : ℕ) (bs : List ℕ) → Leaves (λ vs rest. length vs ≡ k) (times k R n bs)
  unfolding times
  leaves_times zero n bs = refl
  leaves_times (suc k) n bs =
      leaves_then (λ (vs : List A). length vs ≡ suc k) (R n bs) _ (λ a n bs.
      leaves_onward (λ vs rest. length vs ≡ k) _ (times k R n bs) _ (leaves_times k n bs) (λ vs n bs e. ap suc e))

  -- one of them, and then one fewer
  more_one : (m : ℕ) (vs : List A) (n : ℕ) (bs : List ℕ) → more (suc m) vs n bs ≡ onward (R n bs) (λ v. more m (vs ++ v ∷ []))
  unfolding times
  more_one m vs n bs =
      onward_twice (R n bs) _ _
      ∙ onward_same (R n bs) _ (λ v. more m (vs ++ v ∷ [])) (λ v n₁ bs₁.
      onward_twice (times m R n₁ bs₁) _ _
      ∙ onward_same (times m R n₁ bs₁) _ _ (λ rest n₂ bs₂. ap (λ (l : List A). found l n₂ bs₂) (sym (append_assoc vs (v ∷ []) rest))))

  -- as many values as times
  pub times_count : (k : ℕ) (p r : Progress) (vs : List A) → reached vs r ≡ resumed p (times k R) → Going r → length vs ≡ k
  times_count k p r vs says g = read_has vs (λ vs. length vs ≡ k) p r (times k R) (leaves_times k) says g

  -- before the first
  pub times_first : (n : ℕ) (p : Progress) → onward (reached [] p) (more n) ≡ resumed p (times n R)
  unfolding onward
  times_first n (Ok c) = onward_give (times n R (suc c.line) (drop c.at c.file.now))
  times_first n (Err e) = onward_refused e (more n)

  -- after one more
  pub times_next : (vs : List A) (v : A) (m : ℕ) (q q' : Progress) → reached v q' ≡ resumed q R
      → onward (reached vs q) (more (suc m)) ≡ onward (reached (vs ++ v ∷ []) q') (more m)
  times_next vs v m q q' e =
      onward_same (reached vs q) (more (suc m)) _ (more_one m)
      ∙ onward_reached vs q _
      ∙ past_reader q q' v R (λ w. more m (vs ++ w ∷ [])) e
      ∙ sym (onward_reached (vs ++ v ∷ []) q' (more m))

  -- after the last
  pub times_done : (vs : List A) (q : Progress) → onward (reached vs q) (more 0) ≡ reached vs q
  unfolding onward times
  times_done vs (Ok c) = rw (append-nil vs) refl
  times_done vs (Err e) = onward_refused e (more 0)
