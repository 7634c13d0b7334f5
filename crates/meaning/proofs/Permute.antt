-- Lists in another order: their members, and what is computed from them, stay the same.
use mathlib.Core.Path.{◌≡◌, refl, sym, ap, subst, subst₂, ◌∙◌}
use mathlib.Core.Logic.{inl, inr, ⊎_elim, ◌↔◌}
use mathlib.Core.Bool.{Bool, true, false, cond}
use mathlib.Core.List.Permᴰ
use mathlib.Core.List.{List, [], ◌∷◌, map, flat_map, Permᴰ}
use Prim.Native.Nat.{ℕ, suc, ◌+◌}
use native.Mathlib.Omega.{arith}
use lib.IntN.{ℤ, ◌+ℤ◌, +ℤ_assoc, +ℤ_comm}
use lib.ListN.{length}
use Rattle.meaning.specs.Lists.{any, filter, dedup, sum, sumℤ, In, Every}
use Rattle.meaning.proofs.Tests.{same_test}
use Rattle.meaning.proofs.Lists.{NoRepeat, any_reads, every_reads, in_dedup, dedup_no_repeat, in_flat_map}

module _ {A : Type 0} where
  -- ---- lists with the same members, in whatever order and however often
  abbrev pub Same : List A → List A → Type 0
  Same l l' = ((a : A) → In a l → In a l') × ((a : A) → In a l' → In a l)

  pub same_refl : (l : List A) → Same l l
  same_refl l = ((λ a m. m), (λ a m. m))

  same_any : (test : A → Bool) (l l' : List A) → Same l l' → any test l ≡ any test l'
  same_any test l l' s =
      same_test (any test l) (any test l') (
        (λ e. let w = (any_reads test l).0 e in (any_reads test l').1 (w.0, s.0 w.0 w.1, w.2)),
        (λ e. let w = (any_reads test l').0 e in (any_reads test l).1 (w.0, s.1 w.0 w.1, w.2)),
      )

  pub same_every : (P : A → Type 0) (l l' : List A) → Same l l' → Every P l → Every P l'
  same_every P l l' s h = (every_reads P l').1 (λ a m. (every_reads P l).0 h a (s.1 a m))

  -- ---- induction over a permutation, free of the paths that its steps carry
  module _ (R : List A → List A → Type 0) (none : R [] []) (first : (a : A) (l l' : List A) → Permᴰ l l' → R l l' → R (a ∷ l) (a ∷ l'))
      (exchange : (a b : A) (l : List A) → R (a ∷ b ∷ l) (b ∷ a ∷ l)) (chain : (l m n : List A) → R l m → R m n → R l n) where
    pub perm_induct : {l l' : List A} → Permᴰ l l' → R l l'
    perm_induct Permᴰ.nil = none
    perm_induct (Permᴰ.cons {a} {b} {l₁} {l₂} e h) = subst (λ (z : A). R (a ∷ l₁) (z ∷ l₂)) e (first a l₁ l₂ h (perm_induct h))
    perm_induct (Permᴰ.swap {a} {b} {l = l} e f) = subst₂ (λ (y z : A). R (a ∷ b ∷ l) (y ∷ z ∷ l)) f e (exchange a b l)
    perm_induct (Permᴰ.trans {l₁} {l₂} {l₃} h k) = chain l₁ l₂ l₃ (perm_induct h) (perm_induct k)

  -- a value that stays when the first two elements change places is the same in every order
  perm_equal : {B : Type 0} (value : List A → B) → ((a : A) (l l' : List A) → value l ≡ value l' → value (a ∷ l) ≡ value (a ∷ l'))
      → ((a b : A) (l : List A) → value (a ∷ b ∷ l) ≡ value (b ∷ a ∷ l)) → {l l' : List A} → Permᴰ l l' → value l ≡ value l'
  perm_equal value first exchange h = perm_induct (λ l l'. value l ≡ value l') refl (λ a l l' k e. first a l l' e) exchange (λ l m n e k. e ∙ k) h

  -- ---- what stays the same
  perm_in : (a : A) {l l' : List A} → Permᴰ l l' → In a l → In a l'
  perm_in a h =
      perm_induct (λ l l'. In a l → In a l') (λ m. m) (λ b l l' p k. ⊎_elim (λ e. inl e) (λ m. inr (k m)))
      (λ b c l. ⊎_elim (λ e. inr (inl e)) (⊎_elim (λ e. inl e) (λ m. inr (inr m)))) (λ l m n k k' z. k' (k z)) h

  pub perm_same : {l l' : List A} → Permᴰ l l' → Same l l'
  perm_same h = ((λ a m. perm_in a h m), (λ a m. perm_in a (Permᴰ.symm h) m))

  pub any_perm : (test : A → Bool) {l l' : List A} → Permᴰ l l' → any test l ≡ any test l'
  any_perm test {l} {l'} h = same_any test l l' (perm_same h)

  pub every_perm : (P : A → Type 0) {l l' : List A} → Permᴰ l l' → Every P l → Every P l'
  every_perm P {l} {l'} h = same_every P l l' (perm_same h)

  pub length_perm : {l l' : List A} → Permᴰ l l' → length l ≡ length l'
  length_perm h = perm_equal length (λ a l l' e. ap suc e) (λ a b l. refl) h

  pub sum_perm : (f : A → ℕ) {l l' : List A} → Permᴰ l l' → sum f l ≡ sum f l'
  unfolding sum
  sum_perm f h = perm_equal (sum f) (λ a l l' e. ap (λ n. f a + n) e) (λ a b l. omega arith) h

  pub sumℤ_perm : (f : A → ℤ) {l l' : List A} → Permᴰ l l' → sumℤ f l ≡ sumℤ f l'
  unfolding sumℤ
  sumℤ_perm f h =
      perm_equal (sumℤ f) (λ a l l' e. ap (λ n. f a +ℤ n) e)
      (λ a b l. sym (+ℤ_assoc (f a) (f b) (sumℤ f l)) ∙ ap (λ n. n +ℤ sumℤ f l) (+ℤ_comm (f a) (f b)) ∙ +ℤ_assoc (f b) (f a) (sumℤ f l)) h

  pub map_perm : {B : Type 0} (f : A → B) {l l' : List A} → Permᴰ l l' → Permᴰ (map f l) (map f l')
  map_perm f h =
      perm_induct (λ l l'. Permᴰ (map f l) (map f l')) Permᴰ.nil (λ a l l' p k. Permᴰ.cons refl k)
      (λ a b l. Permᴰ.swap refl refl) (λ l m n k k'. Permᴰ.trans k k') h

  pub filter_perm : (test : A → Bool) {l l' : List A} → Permᴰ l l' → Permᴰ (filter test l) (filter test l')
  unfolding filter
  filter_perm test h =
      perm_induct (λ l l'. Permᴰ (filter test l) (filter test l')) Permᴰ.nil (λ a l l' p k. first (test a) a k)
      (λ a b l. exchange (test a) (test b) a b (filter test l)) (λ l m n k k'. Permᴰ.trans k k') h
    where
      first : (t : Bool) (a : A) {l l' : List A} → Permᴰ l l' → Permᴰ (cond t (a ∷ l) l) (cond t (a ∷ l') l')
      first true a k = Permᴰ.cons refl k
      first false a k = k

      exchange : (s t : Bool) (a b : A) (l : List A)
          → Permᴰ (cond s (a ∷ cond t (b ∷ l) l) (cond t (b ∷ l) l)) (cond t (b ∷ cond s (a ∷ l) l) (cond s (a ∷ l) l))
      exchange true true a b l = Permᴰ.swap refl refl
      exchange true false a b l = Permᴰ.refl (a ∷ l)
      exchange false true a b l = Permᴰ.refl (b ∷ l)
      exchange false false a b l = Permᴰ.refl l

  -- ---- lists without repeats
  pub no_repeat_perm : {l l' : List A} → Permᴰ l l' → NoRepeat l → NoRepeat l'
  no_repeat_perm h =
      perm_induct (λ l l'. NoRepeat l → NoRepeat l') (λ u. u) (λ a l l' p k u. ((λ m. u.0 (perm_in a (Permᴰ.symm p) m)), k u.1))
      (λ a b l u. (⊎_elim (λ e. u.0 (inl (sym e))) u.1.0, ((λ m. u.0 (inr m)), u.1.1))) (λ l m n k k' u. k' (k u)) h

  -- a member can be put first
  member_first : (a : A) (l : List A) → In a l → (rest : List A) × Permᴰ l (a ∷ rest)
  member_first a [] m = absurd m
  member_first a (b ∷ l) (inl e) = (l, Permᴰ.cons (sym e) (Permᴰ.refl l))
  member_first a (b ∷ l) (inr m) =
      let w = member_first a l m in
      (b ∷ w.0, Permᴰ.trans (Permᴰ.cons refl w.1) (Permᴰ.swap refl refl))

  -- where neither list repeats a member, the same members make a permutation
  members_perm : (l l' : List A) → NoRepeat l → NoRepeat l' → Same l l' → Permᴰ l l'
  members_perm [] [] u u' s = Permᴰ.nil
  members_perm [] (b ∷ l') u u' s = absurd (s.1 b (inl refl))
  members_perm (a ∷ l) l' u u' s =
      let w = member_first a l' (s.0 a (inl refl)) in
      let v = no_repeat_perm w.1 u' in
      let k = perm_same w.1 in
      let rest : Same l w.0 = (
        (λ b m. ⊎_elim (λ e. absurd (u.0 (subst (λ (z : A). In z l) e m))) (λ n. n) (k.0 b (s.0 b (inr m)))),
        (λ b m. ⊎_elim (λ e. absurd (v.0 (subst (λ (z : A). In z w.0) e m))) (λ n. n) (s.1 b (k.1 b (inr m)))),
      ) in
      Permᴰ.trans (Permᴰ.cons refl (members_perm l w.0 u.1 v.1 rest)) (Permᴰ.symm w.1)

  -- ---- each element once, for a test that says when two are equal
  module _ (same : A → A → Bool) (reads : (a b : A) → (same a b ≡ true) ↔ (a ≡ b)) where
    pub dedup_perm : {l l' : List A} → Permᴰ l l' → Permᴰ (dedup same l) (dedup same l')
    dedup_perm {l} {l'} h =
        let s = perm_same h in
        members_perm (dedup same l) (dedup same l') (dedup_no_repeat same reads l) (dedup_no_repeat same reads l') (
          (λ a m. (in_dedup same reads l' a).1 (s.0 a ((in_dedup same reads l a).0 m))),
          (λ a m. (in_dedup same reads l a).1 (s.1 a ((in_dedup same reads l' a).0 m))),
        )

-- ---- lists made from each element of lists with the same members
module _ {A B : Type 0} (g g' : A → List B) (l l' : List A) (s : Same l l') where
  pub flat_map_same : ((a : A) → Same (g a) (g' a)) → Same (flat_map g l) (flat_map g' l')
  flat_map_same k = (
    (λ b m. let w = (in_flat_map g l b).0 m in (in_flat_map g' l' b).1 (w.0, s.0 w.0 w.1, (k w.0).0 b w.2)),
    (λ b m. let w = (in_flat_map g' l' b).0 m in (in_flat_map g l b).1 (w.0, s.1 w.0 w.1, (k w.0).1 b w.2)),
  )

  pub flat_map_equal : ((a : A) → g a ≡ g' a) → Same (flat_map g l) (flat_map g' l')
  flat_map_equal k = flat_map_same (λ a. subst (Same (g a)) (k a) (same_refl (g a)))
