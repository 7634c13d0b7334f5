-- Members of the lists that the definitions make, lists that have none, lists in two parts, and the rest of a list from a place on.
use mathlib.Core.Path.{◌≡◌, refl, sym, ap, ap₂, subst, ◌∙◌}
use mathlib.Core.Logic.{◌⊎◌, inl, inr, ⊎_elim, ◌↔◌}
use mathlib.Core.Bool.{Bool, true, false, cond, not, ◌&&◌, ◌||◌}
use mathlib.Core.List.{List, [], ◌∷◌, ◌++◌, map, flat_map, append-nil, append_assoc}
use Prim.Native.Nat.{ℕ, zero, suc, ◌+◌, ◌-◌, ◌≤◌, ◌<◌}
use native.Mathlib.Nat.{eq-or-lt_of_le}
use native.Mathlib.Numerals.{add-one}
use native.Mathlib.Omega.{arith}
use borrow.Author.Tests.{eqb-true, eq-eqb}
use lib.Dec.{eqb}
use lib.ListN.{length, get_or, take, drop, take-append-drop, drop_of_length-le}
use lib.Seq.{drop-cons}
use Rattle.meaning.specs.Lists.{any, all, filter, dedup, only_if, up_from, In, Every, listed, distinct}
use Rattle.meaning.proofs.Tests.{true≢false, and_reads, or_reads, not_reads, same_test, iff_trans, iff_both, iff_not}

-- a fact of the first element of a list, in front of those of the others
infixr 30 ◌&◌
pub ◌&◌ : {A B : Type 0} → A → B → A × B
a & b = (a, b)

module _ {A : Type 0} where
  pub no_cons : (a : A) (l : List A) → (a ∷ l) ≡ [] → ⊥
  no_cons a l e = let z : suc (length l) ≡ 0 = ap length e in omega arith

  -- ---- members
  pub in_append : (a : A) (l l' : List A) → In a (l ++ l') ↔ (In a l ⊎ In a l')
  in_append a [] l' = ((λ m. inr m), ⊎_elim (λ m. absurd m) (λ m. m))
  in_append a (b ∷ l) l' = (
    ⊎_elim (λ e. inl (inl e)) (λ m. ⊎_elim (λ k. inl (inr k)) (λ k. inr k) ((in_append a l l').0 m)),
    ⊎_elim (⊎_elim (λ e. inl e) (λ m. inr ((in_append a l l').1 (inl m)))) (λ m. inr ((in_append a l l').1 (inr m))),
  )

  pub in_only_if : (b : Bool) (a c : A) → In a (only_if b c) ↔ ((b ≡ true) × (a ≡ c))
  in_only_if true a c = (⊎_elim (λ e. (refl, e)) (λ m. absurd m), (λ h. inl h.1))
  in_only_if false a c = ((λ m. absurd m), (λ h. true≢false (sym h.0)))

  pub in_filter : (test : A → Bool) (l : List A) (a : A) → In a (filter test l) ↔ (In a l × (test a ≡ true))
  unfolding filter
  in_filter test [] a = ((λ m. absurd m), (λ h. h.0))
  in_filter test (b ∷ l) a = go (in_filter test l a) (test b) refl
    where
      go : In a (filter test l) ↔ (In a l × (test a ≡ true)) → (t : Bool) → test b ≡ t
          → In a (cond t (b ∷ filter test l) (filter test l)) ↔ (((a ≡ b) ⊎ In a l) × (test a ≡ true))
      go rec true e = (
        ⊎_elim (λ q. (inl q, ap test q ∙ e)) (λ m. let h = rec.0 m in (inr h.0, h.1)),
        (λ h. ⊎_elim (λ q. inl q) (λ m. inr (rec.1 (m, h.1))) h.0),
      )
      go rec false e = (
        (λ m. let h = rec.0 m in (inr h.0, h.1)),
        (λ h. ⊎_elim (λ q. absurd (true≢false (sym h.1 ∙ ap test q ∙ e))) (λ m. rec.1 (m, h.1)) h.0),
      )

  pub any_reads : (test : A → Bool) (l : List A) → (any test l ≡ true) ↔ ((a : A) × In a l × (test a ≡ true))
  unfolding any
  any_reads test [] = ((λ e. absurd (true≢false (sym e))), (λ w. absurd w.1))
  any_reads test (b ∷ l) = (
    (λ e. ⊎_elim (λ h. (b, inl refl, h)) (λ h. let w = (any_reads test l).0 h in (w.0, inr w.1, w.2)) ((or_reads (test b) (any test l)).0 e)),
    (λ w.
        (or_reads (test b) (any test l)).1
        (⊎_elim (λ q. inl (subst (λ (a : A). test a ≡ true) q w.2)) (λ m. inr ((any_reads test l).1 (w.0, m, w.2))) w.1)),
  )

  pub every_reads : (P : A → Type 0) (l : List A) → Every P l ↔ ((a : A) → In a l → P a)
  every_reads P [] = ((λ h a m. absurd m), (λ f. tt))
  every_reads P (b ∷ l) = (
    (λ h a. ⊎_elim (λ q. subst P (sym q) h.0) (λ m. (every_reads P l).0 h.1 a m)),
    (λ f. (f b (inl refl), (every_reads P l).1 (λ a m. f a (inr m)))),
  )

  -- all pass a test exactly when every one has what the test reads
  pub all_every : (test : A → Bool) (P : A → Type 0) → ((a : A) → (test a ≡ true) ↔ P a) → (l : List A) → (all test l ≡ true) ↔ Every P l
  unfolding all
  all_every test P reads [] = ((λ e. tt), (λ h. refl))
  all_every test P reads (a ∷ l) = iff_trans (and_reads (test a) (all test l)) (iff_both (reads a) (all_every test P reads l))

  pub all_reads : (test : A → Bool) (l : List A) → (all test l ≡ true) ↔ ((a : A) → In a l → test a ≡ true)
  all_reads test l = iff_trans (all_every test (λ a. test a ≡ true) (λ a. ((λ e. e), (λ e. e))) l) (every_reads (λ a. test a ≡ true) l)

  pub every_append : (P : A → Type 0) (l l' : List A) → Every P (l ++ l') ↔ (Every P l × Every P l')
  every_append P [] l' = ((λ h. (tt, h)), (λ h. h.1))
  every_append P (a ∷ l) l' = (
    (λ h. let k = (every_append P l l').0 h.1 in ((h.0, k.0), k.1)),
    (λ h. (h.0.0, (every_append P l l').1 (h.0.1, h.1))),
  )

  pub every_map : (P Q : A → Type 0) → ((a : A) → P a → Q a) → (l : List A) → Every P l → Every Q l
  every_map P Q f [] h = tt
  every_map P Q f (a ∷ l) h = (f a h.0, every_map P Q f l h.1)

  pub every_iff : (P Q : A → Type 0) → ((a : A) → P a ↔ Q a) → (l : List A) → Every P l ↔ Every Q l
  every_iff P Q f l = (every_map P Q (λ a. (f a).0) l, every_map Q P (λ a. (f a).1) l)

  -- ---- the element at a place
  pub at_in : (l : List A) (d : A) (n : ℕ) → n < length l → In (get_or l n d) l
  at_in [] d n k = absurd (omega arith)
  at_in (a ∷ l) d zero k = inl refl
  at_in (a ∷ l) d (suc n) k = inr (at_in l d n (omega arith))

  pub in_at : (d : A) (l : List A) (a : A) → In a l → (n : ℕ) × (n < length l) × (a ≡ get_or l n d)
  in_at d [] a m = absurd m
  in_at d (b ∷ l) a (inl e) = (0, omega arith, e)
  in_at d (b ∷ l) a (inr m) = let w = in_at d l a m in (suc w.0, omega (arith, w.1), w.2)

  -- what holds of every element, at every place
  module _ (P : A → Type 0) where
    pub every_at : (l : List A) (d : A) (n : ℕ) → Every P l → n < length l → P (get_or l n d)
    every_at l d n h k = (every_reads P l).0 h (get_or l n d) (at_in l d n k)

    -- also at places behind the last, where it holds of what stands in for an element
    pub every_or : (d : A) → P d → (l : List A) → Every P l → (n : ℕ) → P (get_or l n d)
    every_or d p [] h n = p
    every_or d p (a ∷ l) h zero = h.0
    every_or d p (a ∷ l) h (suc n) = every_or d p l h.1 n

    pub every_place : (d : A) (l : List A) → ((n : ℕ) → n < length l → P (get_or l n d)) → Every P l
    every_place d l h = (every_reads P l).1 (λ a m. let w = in_at d l a m in rw w.2 (h w.0 w.1))

    -- and of every element of a part
    pub every_take : (n : ℕ) (l : List A) → Every P l → Every P (take n l)
    every_take n l h = ((every_append P (take n l) (drop n l)).0 (rw (take-append-drop n l) h)).0

    pub every_drop : (n : ℕ) (l : List A) → Every P l → Every P (drop n l)
    every_drop n l h = ((every_append P (take n l) (drop n l)).0 (rw (take-append-drop n l) h)).1

    pub every_filter : (test : A → Bool) (l : List A) → Every P l → Every P (filter test l)
    every_filter test l h = (every_reads P (filter test l)).1 (λ a m. (every_reads P l).0 h a ((in_filter test l a).0 m).0)

  -- ---- the rest of a list from a place on: the element there, and the rest behind it
  module _ (l : List A) (j : ℕ) (d : A) where
    pub drop_next : j < length l → drop j l ≡ get_or l j d ∷ drop (j + 1) l
    drop_next h = rw (add-one, drop-cons l j d)

    -- the same from the place before j
    pub drop_back : 0 < j → j ≤ length l → drop (j - 1) l ≡ get_or l (j - 1) d ∷ drop j l
    drop_back h k =
        let inside : j - 1 < length l = omega arith in
        let next : suc (j - 1) ≡ j = omega arith in
        drop-cons l (j - 1) d inside ∙ ap (λ (n : ℕ). get_or l (j - 1) d ∷ drop n l) next

  -- a value that is worked out on the way down, as a definition by the first element has it
  pub record Down {B : Type 0} (value : List A → B) (l : List A) (j : ℕ) (v : B) : Type 0 where
    pub upto : j ≤ length l
    pub is : v ≡ value (drop j l)

  module _ {B : Type 0} {value : List A → B} {l : List A} where
    pub down_start : {j : ℕ} {v : B} → j ≡ length l → v ≡ value [] → Down value l j v
    down_start {j} e is =
        let k : length l ≤ j = omega arith in
        record { upto = omega arith; is = is ∙ ap value (sym (drop_of_length-le l k)) }

    pub down_more : (d : A) {j : ℕ} {u v : B} → Down value l j u → 0 < j → v ≡ value (get_or l (j - 1) d ∷ drop j l) → Down value l (j - 1) v
    down_more d {j} h k e = record { upto = omega (arith, h.upto); is = e ∙ ap value (sym (drop_back l j d k h.upto)) }

    pub down_end : {j : ℕ} {v : B} → Down value l j v → j ≤ 0 → v ≡ value l
    down_end {j} h k = let e : j ≡ 0 = omega arith in h.is ∙ ap (λ n. value (drop n l)) e

  -- ---- no element
  pub append_none : (l l' : List A) → (l ++ l' ≡ []) ↔ ((l ≡ []) × (l' ≡ []))
  append_none [] l' = ((λ e. (refl, e)), (λ h. h.1))
  append_none (a ∷ l) l' = ((λ e. absurd (no_cons a (l ++ l') e)), (λ h. absurd (no_cons a l h.0)))

  -- a place is listed unless its test passes
  pub unless_none : (b : Bool) (a : A) → (only_if (not b) a ≡ []) ↔ (b ≡ true)
  unless_none true a = ((λ e. refl), (λ e. refl))
  unless_none false a = ((λ e. absurd (no_cons a [] e)), (λ e. absurd (true≢false (sym e))))

  -- the same where only some places are looked at
  pub among_none : (b c : Bool) (a : A) → (only_if (b && not c) a ≡ []) ↔ (b ≡ true → c ≡ true)
  among_none true true a = ((λ e k. refl), (λ f. refl))
  among_none true false a = ((λ e k. absurd (no_cons a [] e)), (λ f. absurd (true≢false (sym (f refl)))))
  among_none false c a = ((λ e k. absurd (true≢false (sym k))), (λ f. refl))

  -- no element passes the test
  pub any_none : (test : A → Bool) (l : List A) → ((a : A) → In a l → test a ≡ false) → any test l ≡ false
  unfolding any
  any_none test [] none = refl
  any_none test (a ∷ l) none = ap₂ ◌||◌ (none a (inl refl)) (any_none test l (λ b m. none b (inr m)))

  pub filter_none : (test : A → Bool) (l : List A) → ((a : A) → In a l → test a ≡ false) → filter test l ≡ []
  unfolding filter
  filter_none test [] none = refl
  filter_none test (a ∷ l) none = rw (none a (inl refl)) (filter_none test l (λ b m. none b (inr m)))

  -- and every element passes it
  pub filter_all : (test : A → Bool) (l : List A) → Every (λ (a : A). test a ≡ true) l → filter test l ≡ l
  unfolding filter
  filter_all test [] h = refl
  filter_all test (a ∷ l) h = rw (h.0, filter_all test l h.1) refl

  -- ---- two lists, one behind the other
  pub any_append : (test : A → Bool) (l l' : List A) → any test (l ++ l') ≡ (any test l || any test l')
  unfolding any
  any_append test [] l' = refl
  any_append test (a ∷ l) l' = go (test a) (any_append test l l')
    where
      go : (t : Bool) → any test (l ++ l') ≡ (any test l || any test l') → (t || any test (l ++ l')) ≡ ((t || any test l) || any test l')
      go true e = refl
      go false e = e

  pub filter_append : (test : A → Bool) (l l' : List A) → filter test (l ++ l') ≡ filter test l ++ filter test l'
  unfolding filter
  filter_append test [] l' = refl
  filter_append test (a ∷ l) l' = go (test a) (filter_append test l l')
    where
      go : (t : Bool) → filter test (l ++ l') ≡ filter test l ++ filter test l'
          → cond t (a ∷ filter test (l ++ l')) (filter test (l ++ l')) ≡ cond t (a ∷ filter test l) (filter test l) ++ filter test l'
      go true e = ap (λ (z : List A). a ∷ z) e
      go false e = e

  -- where no element of the first is the same as one of the second
  pub dedup_append : (same : A → A → Bool) (l l' : List A) → ((a : A) → In a l → any (same a) l' ≡ false)
      → dedup same (l ++ l') ≡ dedup same l ++ dedup same l'
  unfolding dedup
  dedup_append same [] l' none = refl
  dedup_append same (a ∷ l) l' none =
      rw (any_append (same a) l l', none a (inl refl)) (go (any (same a) l) (dedup_append same l l' (λ b m. none b (inr m))))
    where
      go : (t : Bool) → dedup same (l ++ l') ≡ dedup same l ++ dedup same l'
          → cond (t || false) (dedup same (l ++ l')) (a ∷ dedup same (l ++ l')) ≡ cond t (dedup same l) (a ∷ dedup same l) ++ dedup same l'
      go true e = e
      go false e = ap (λ (z : List A). a ∷ z) e

  pub dedup_most : (same : A → A → Bool) (l : List A) → length (dedup same l) ≤ length l
  unfolding dedup
  dedup_most same [] = omega arith
  dedup_most same (a ∷ l) = go (dedup_most same l) (any (same a) l)
    where
      go : length (dedup same l) ≤ length l → (t : Bool) → length (cond t (dedup same l) (a ∷ dedup same l)) ≤ suc (length l)
      go rec true = omega arith
      go rec false = omega arith

  -- no element stands twice
  abbrev pub NoRepeat : List A → Type 0
  NoRepeat [] = Unit {0}
  NoRepeat (a ∷ l) = (In a l → ⊥) × NoRepeat l

  -- ---- each element once, for a test that says when two are equal
  module _ (same : A → A → Bool) (reads : (a b : A) → (same a b ≡ true) ↔ (a ≡ b)) where
    pub same_turned : (a b : A) → same a b ≡ same b a
    same_turned a b = same_test (same a b) (same b a) ((λ e. (reads b a).1 (sym ((reads a b).0 e))), (λ e. (reads a b).1 (sym ((reads b a).0 e))))

    any_same : (a : A) (l : List A) → (any (same a) l ≡ true) ↔ In a l
    any_same a l = (
      (λ e. let w = (any_reads (same a) l).0 e in subst (λ (z : A). In z l) (sym ((reads a w.0).0 w.2)) w.1),
      (λ m. (any_reads (same a) l).1 (a, m, (reads a a).1 refl)),
    )

    pub in_dedup : (l : List A) (a : A) → In a (dedup same l) ↔ In a l
    unfolding dedup
    in_dedup [] a = ((λ m. m), (λ m. m))
    in_dedup (b ∷ l) a = go (in_dedup l) (any (same b) l) refl
      where
        go : ((c : A) → In c (dedup same l) ↔ In c l) → (t : Bool) → any (same b) l ≡ t → In a (cond t (dedup same l) (b ∷ dedup same l)) ↔ In a (b ∷ l)
        go rec true e = (
          (λ m. inr ((rec a).0 m)),
          ⊎_elim (λ q. subst (λ (z : A). In z (dedup same l)) (sym q) ((rec b).1 ((any_same b l).0 e))) (λ m. (rec a).1 m),
        )
        go rec false e = (⊎_elim (λ q. inl q) (λ m. inr ((rec a).0 m)), ⊎_elim (λ q. inl q) (λ m. inr ((rec a).1 m)))

    pub dedup_no_repeat : (l : List A) → NoRepeat (dedup same l)
    unfolding dedup
    dedup_no_repeat [] = tt
    dedup_no_repeat (a ∷ l) = go (dedup_no_repeat l) (any (same a) l) refl
      where
        go : NoRepeat (dedup same l) → (t : Bool) → any (same a) l ≡ t → NoRepeat (cond t (dedup same l) (a ∷ dedup same l))
        go rec true e = rec
        go rec false e = ((λ m. true≢false (sym ((any_same a l).1 ((in_dedup l a).0 m)) ∙ e)), rec)

module _ {A B : Type 0} where
  pub in_flat_map : (g : A → List B) (l : List A) (b : B) → In b (flat_map g l) ↔ ((a : A) × In a l × In b (g a))
  unfolding flat_map
  in_flat_map g [] b = ((λ m. absurd m), (λ w. absurd w.1))
  in_flat_map g (c ∷ l) b = (
    (λ m. ⊎_elim (λ k. (c, inl refl, k)) (λ k. let w = (in_flat_map g l b).0 k in (w.0, inr w.1, w.2)) ((in_append b (g c) (flat_map g l)).0 m)),
    (λ w.
        (in_append b (g c) (flat_map g l)).1
        (⊎_elim (λ q. inl (subst (λ (z : A). In b (g z)) q w.2)) (λ m. inr ((in_flat_map g l b).1 (w.0, m, w.2))) w.1)),
  )

  pub in_map : (f : A → B) (l : List A) (b : B) → In b (map f l) ↔ ((a : A) × In a l × (b ≡ f a))
  in_map f [] b = ((λ m. absurd m), (λ w. absurd w.1))
  in_map f (c ∷ l) b = (
    ⊎_elim (λ e. (c, inl refl, e)) (λ m. let w = (in_map f l b).0 m in (w.0, inr w.1, w.2)),
    (λ w. ⊎_elim (λ q. inl (w.2 ∙ ap f q)) (λ m. inr ((in_map f l b).1 (w.0, m, w.2))) w.1),
  )

  pub map_at : (f : A → B) (l : List A) (k : ℕ) (d : A) (e : B) → k < length l → get_or (map f l) k e ≡ f (get_or l k d)
  map_at f [] k d e h = absurd (omega arith)
  map_at f (a ∷ l) zero d e h = refl
  map_at f (a ∷ l) (suc k) d e h = map_at f l k d e (omega arith)

  pub flat_map_none : (g : A → List B) (l : List A) → (flat_map g l ≡ []) ↔ ((a : A) → In a l → g a ≡ [])
  unfolding flat_map
  flat_map_none g [] = ((λ e a m. absurd m), (λ f. refl))
  flat_map_none g (c ∷ l) = (
    (λ e a. let h = (append_none (g c) (flat_map g l)).0 e in ⊎_elim (λ q. ap g q ∙ h.0) (λ m. (flat_map_none g l).0 h.1 a m)),
    (λ f. (append_none (g c) (flat_map g l)).1 (f c (inl refl), (flat_map_none g l).1 (λ a m. f a (inr m)))),
  )

  pub flat_map_append : (g : A → List B) (l l' : List A) → flat_map g (l ++ l') ≡ flat_map g l ++ flat_map g l'
  unfolding flat_map
  flat_map_append g [] l' = refl
  flat_map_append g (a ∷ l) l' = ap (λ (z : List B). g a ++ z) (flat_map_append g l l') ∙ sym (append_assoc (g a) (flat_map g l) (flat_map g l'))

  -- with one element more
  pub flat_map_more : (g : A → List B) (l : List A) (a : A) → flat_map g (l ++ a ∷ []) ≡ flat_map g l ++ g a
  unfolding flat_map
  flat_map_more g l a = flat_map_append g l (a ∷ []) ∙ ap (λ (z : List B). flat_map g l ++ z) (append-nil (g a))

  -- functions that agree on the elements
  pub flat_map_agree : (g h : A → List B) (l : List A) → ((a : A) → In a l → g a ≡ h a) → flat_map g l ≡ flat_map h l
  unfolding flat_map
  flat_map_agree g h [] e = refl
  flat_map_agree g h (a ∷ l) e = ap₂ ◌++◌ (e a (inl refl)) (flat_map_agree g h l (λ b m. e b (inr m)))

-- ---- lists of numbers
pub listed_reads : (n : ℕ) (l : List ℕ) → (listed n l ≡ true) ↔ In n l
listed_reads n l = any_same eqb (λ a b. (eqb-true a b, eq-eqb a b)) n l

pub distinct_reads : (l : List ℕ) → (distinct l ≡ true) ↔ NoRepeat l
unfolding distinct
distinct_reads [] = ((λ e. tt), (λ u. refl))
distinct_reads (n ∷ l) =
    iff_trans (and_reads (not (listed n l)) (distinct l)) (iff_both (iff_trans (not_reads (listed n l)) (iff_not (listed_reads n l))) (distinct_reads l))

pub in_up_from : (a n k : ℕ) → In k (up_from a n) ↔ ((a ≤ k) × (k < a + n))
unfolding up_from
in_up_from a zero k = ((λ m. absurd m), (λ h. absurd (omega arith)))
in_up_from a (suc n) k = (
  ⊎_elim (λ e. (omega arith, omega arith)) (λ m. let h = (in_up_from (suc a) n k).0 m in (omega arith, omega arith)),
  (λ h. ⊎_elim (λ e. inl (sym e)) (λ l. inr ((in_up_from (suc a) n k).1 (l, omega arith))) (eq-or-lt_of_le h.0)),
)

pub length_up_from : (a n : ℕ) → length (up_from a n) ≡ n
unfolding up_from
length_up_from a zero = refl
length_up_from a (suc n) = ap suc (length_up_from (suc a) n)

pub up_from_at : (a n k d : ℕ) → k < n → get_or (up_from a n) k d ≡ a + k
unfolding up_from
up_from_at a zero k d h = absurd (omega arith)
up_from_at a (suc n) zero d h = omega arith
up_from_at a (suc n) (suc k) d h = omega (arith, up_from_at (suc a) n k d (omega arith))

-- the elements of a list, place by place
pub map_up_from : {A : Type 0} (l : List A) (d : A) (a n : ℕ) → a + n ≤ length l → map (λ k. get_or l k d) (up_from a n) ≡ take n (drop a l)
unfolding up_from
map_up_from l d a zero h = refl
map_up_from l d a (suc n) h = rw (drop-cons l a d (omega arith)) (ap (λ r. get_or l a d ∷ r) (map_up_from l d (suc a) n (omega arith)))
