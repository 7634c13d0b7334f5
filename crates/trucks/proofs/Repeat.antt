-- The same thing read some times over, each value into its own run of words: the state of a loop that does so, for every reader, every
-- way to write a value as words, and every width.
use mathlib.Core.Path.{◌≡◌, refl, sym, ◌∙◌}
use mathlib.Core.List.{List, [], ◌∷◌, ◌++◌, flat_map, append_assoc, append-nil}
use Prim.Native.Nat.{ℕ, suc, ◌+◌, ◌-◌, ◌*◌, ◌≤◌, ◌<◌}
use native.Mathlib.Nat.{sub-zero, mul-zero, mul-add, mul-le-mul_left}
use native.Mathlib.Omega.{arith}
use borrow.Rule.Slice.PartMut.{put_mid, mid_len}
use lib.ListN.{length, take, drop, replicate, length-append, length-take, length-drop, length-replicate, replicate-append-replicate, drop_of_length-le}
use lib.Seq.{take_at, drop_at, take_all}
use Rattle.meaning.specs.Lists.{padded}
use Rattle.meaning.specs.Reader.{Reader, onward, times}
use Rattle.meaning.proofs.Lists.{flat_map_more}
use Rattle.std.specs.Prelude.{Err}
use Rattle.lines.specs.declared.LineRefused.{LineRefused}
use Rattle.lines.specs.Progress.{Progress, reached, resumed, Going, Follows, ReadInto}
use Rattle.lines.proofs.Follow.{onward_refused, no_refusal, follows_self, follows_on, more, times_first, times_next, times_done}
use Rattle.trucks.specs.Rows.{rows}

-- ---- words in front and zeros behind them
-- a run put behind what is filled
pub put_next : (front rest run : List ℕ) (at k : ℕ) → length front ≡ at → put_mid at k (front ++ rest) run ≡ (front ++ run) ++ drop k rest
put_next front rest run at k e = rw (take_at front rest at e, drop_at front rest at e) (sym (append_assoc front run (drop k rest)))

-- the words `ws` fill the part `out` up to the place `at`
pub record Front (size at : ℕ) (ws out : List ℕ) : Type 0 where
  pub wide : length ws ≡ at
  pub stands : out ≡ padded size ws

-- a cleared part
pub front_clear : (size : ℕ) (out : List ℕ) → out ≡ replicate size 0 → Front size 0 [] out
front_clear size out e = record { wide = refl; stands = rw (sub-zero size) e }

-- a part that was lent whole to be cleared and came back
pub front_cleared : (size : ℕ) (out zeros : List ℕ) → length out ≡ size → zeros ≡ replicate (length (take size (drop 0 out))) 0
    → Front size 0 [] (put_mid 0 size out zeros)
front_cleared size out zeros long e =
    let whole : length out ≤ size = omega arith in
    front_clear size (put_mid 0 size out zeros) (rw (drop_of_length-le out whole, append-nil, e, take_all size out whole, long) refl)

module _ {size at : ℕ} {ws out : List ℕ} (f : Front size at ws out) where
  pub front_length : at ≤ size → length out ≡ size
  front_length h = rw f.stands (simp (length-append, length-replicate) (omega (arith, f.wide)))

  -- the next k words, which can be lent
  pub front_lent : (k : ℕ) → at + k ≤ size → length (take k (drop at out)) ≡ k
  front_lent k h = let l = front_length (omega arith) in simp (length-take, length-drop) (omega arith)

  -- a run put where the zeros begin
  pub front_put : (k : ℕ) (run : List ℕ) → length run ≡ k → at + k ≤ size → Front size (at + k) (ws ++ run) (put_mid at k out run)
  front_put k run e h =
      let wide : length (ws ++ run) ≡ at + k = length-append ws run ∙ omega (arith, f.wide) in
      let zeros = replicate {A = ℕ} (size - length ws) 0 in
      let left = replicate {A = ℕ} (size - length (ws ++ run)) 0 in
      let count : size - length ws ≡ k + (size - length (ws ++ run)) = omega (arith, f.wide) in
      let split : zeros ≡ replicate k 0 ++ left = rw count (sym (replicate-append-replicate {A = ℕ} k (size - length (ws ++ run)) 0)) in
      record {
        wide = wide;
        stands = rw (f.stands, put_next ws zeros run at k f.wide, split, drop_at (replicate k 0) left k (length-replicate {A = ℕ} k 0)) refl;
      }

  -- a run that was lent there and came back with as many words
  pub front_back : (k : ℕ) (run : List ℕ) → at + k ≤ size → length run ≡ length (take k (drop at out)) → Front size (at + k) (ws ++ run) (put_mid at k out run)
  front_back k run h kept = front_put k run (kept ∙ front_lent k h) h

-- ---- the state of a loop
-- k of n values are read. `Holds` says how they stand in the words, unless a line was refused
pub record Repeat {A : Type 0} (R : Reader A) (Holds : ℕ → List A → List ℕ → Type 0)
    (n : ℕ) (p : Progress) (out : List ℕ) (q : Progress) (k : ℕ) : Type 0 where
  pub values : List A
  pub below : k ≤ n
  pub holds : Going q → Holds k values out
  pub follows : Follows p q
  pub says : onward (reached values q) (more R (n - k)) ≡ resumed p (times n R)

module _ {A : Type 0} {R : Reader A} {Holds : ℕ → List A → List ℕ → Type 0} where
  pub repeat_first : (n : ℕ) (p : Progress) (out : List ℕ) → Holds 0 [] out → Repeat R Holds n p out p 0
  repeat_first n p out h = record {
    values = [];
    below = omega arith;
    holds = λ g. h;
    follows = follows_self p;
    says = rw (sub-zero n) (times_first R n p);
  }

  module _ {n : ℕ} {p : Progress} {out : List ℕ} {q : Progress} {k : ℕ} (s : Repeat R Holds n p out q k) where
    pub repeat_next : {w : A → List ℕ} {r : Progress} {run : List ℕ} → k < n → (a : ReadInto R w q r run) (out' : List ℕ)
        → ((vs : List A) → Holds k vs out → Going r → Holds (k + 1) (vs ++ a.value ∷ []) out')
        → Repeat R Holds n p out' r (k + 1)
    repeat_next {w} {r} {run} h a out' step = record {
      values = s.values ++ a.value ∷ [];
      below = omega arith;
      holds = λ g. step s.values (s.holds (no_refusal a g)) g;
      follows = follows_on p q _ s.follows a.follows;
      says =
          let e : n - k ≡ suc (n - (k + 1)) = omega arith in
          sym (times_next R s.values a.value (n - (k + 1)) q r a.says) ∙ rw e at s.says;
    }

    -- a refusal within ends the reading
    pub repeat_refused : {w : A → List ℕ} {e : LineRefused} {run : List ℕ} → k < n → ReadInto R w q (Err e) run
        → {words : List A → List ℕ} {out' : List ℕ} → ReadInto (times n R) words p (Err e) out'
    repeat_refused {e = e} h a = record {
      value = s.values ++ a.value ∷ [];
      says =
          let m = n - (k + 1) in
          let one : n - k ≡ suc m = omega arith in
          sym (onward_refused e (more R m)) ∙ sym (times_next R s.values a.value m q (Err e) a.says) ∙ rw one at s.says;
      holds = λ g. absurd g;
      follows = follows_on p q _ s.follows a.follows;
    }

    pub repeat_done : (words : List A → List ℕ) → n ≤ k → ((vs : List A) → Holds k vs out → out ≡ words vs) → ReadInto (times n R) words p q out
    repeat_done words h stands = record {
      value = s.values;
      says = let e : n - k ≡ 0 = omega (arith, s.below) in sym (times_done R s.values q) ∙ rw e at s.says;
      holds = λ g. stands s.values (s.holds g);
      follows = s.follows;
    }

-- ---- runs of one width, one behind the other
-- there is room for each of them
pub run_room : (width k count size : ℕ) → k < count → width * count ≤ size → width * k + width ≤ size
run_room width k count size h room =
    let more : k + 1 ≤ count = omega arith in
    omega (arith, mul-le-mul_left width more, mul-add width k 1)

-- and what is lent to it has its width
pub run_lent : (width k : ℕ) (out : List ℕ) → width * k + width ≤ length out
    → length (take (width * k + width - width * k) (drop (width * k) out)) ≡ width
run_lent width k out h = mid_len (width * k) (width * k + width) out h ∙ omega arith

-- the runs of k values fill the part from the front
pub record Runs {A : Type 0} (size width : ℕ) (w : A → List ℕ) (k : ℕ) (vs : List A) (out : List ℕ) : Type 0 where
  pub front : Front size (width * k) (flat_map w vs) out

pub runs_clear : {A : Type 0} (size width : ℕ) (w : A → List ℕ) (out : List ℕ) → out ≡ replicate size 0 → Runs size width w 0 [] out
unfolding flat_map
runs_clear size width w out e = record { front = rw (mul-zero width) (front_clear size out e) }

-- one more run, in the words that were lent
pub runs_put : {A : Type 0} {size width : ℕ} {w : A → List ℕ} {k : ℕ} {vs : List A} {out : List ℕ} → Runs size width w k vs out
    → (lent : ℕ) (run : List ℕ) (v : A) → lent ≡ width → width * k + width ≤ size → length run ≡ lent → run ≡ w v
    → Runs size width w (k + 1) (vs ++ v ∷ []) (put_mid (width * k) lent out run)
runs_put {width = width} {w = w} {k = k} {vs = vs} f lent run v e room l words =
    let at : width * k + lent ≡ width * (k + 1) = omega (arith, mul-add width k 1) in
    record { front = rw (← at, flat_map_more w vs v, ← words) (front_put f.front lent run l (omega arith)) }

module _ {A : Type 0} {R : Reader A} {w : A → List ℕ} {size width : ℕ} where
  -- before the first, in a cleared part
  pub first : (n : ℕ) (p : Progress) (out : List ℕ) → out ≡ replicate size 0 → Repeat R (Runs size width w) n p out p 0
  first n p out e = repeat_first n p out (runs_clear size width w out e)

  module _ {n : ℕ} {p : Progress} {out : List ℕ} {q : Progress} {k : ℕ} (s : Repeat R (Runs size width w) n p out q k) where
    -- after one more
    pub next : {r : Progress} {run : List ℕ} → ReadInto R w q r run → k < n → (lent : ℕ) → lent ≡ width → width * k + width ≤ size → length run ≡ lent
        → Repeat R (Runs size width w) n p (put_mid (width * k) lent out run) r (k + 1)
    next {r} {run} a h lent e room l =
        repeat_next s h a (put_mid (width * k) lent out run) (λ vs f g. runs_put f lent run a.value e room l (a.holds g))

    -- after the last
    pub done : n ≤ k → ReadInto (times n R) (rows size w) p q out
    done h = repeat_done s (rows size w) h (λ vs f. f.front.stands)
