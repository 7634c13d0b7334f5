-- Bytes written one run behind the other: the state of every writer, and its steps.
use mathlib.Core.Path.{◌≡◌, refl, sym, ap, subst, ◌∙◌}
use mathlib.Core.List.{List, [], ◌∷◌, ◌++◌, flat_map, append_assoc, append-nil}
use Prim.Native.Nat.{ℕ, ◌+◌, ◌-◌, ◌≤◌, ◌<◌}
use native.Mathlib.Omega.{arith}
use borrow.Rule.Slice.Mut.{set_vals}
use borrow.Rule.Slice.PartMut.{put_mid}
use lib.ListN.{length, get_or, set, take, drop, length-append, length-take, length-drop, drop_of_length-le}
use lib.Seq.{take_at, drop_at, set_at, drop-drop}
use Rattle.std.proofs.Common.{take-append-drop, length-take-le}
use Rattle.meaning.proofs.Lists.{drop_next}
use Rattle.printing.specs.declared.Writer.{Writer}
use Rattle.printing.specs.Wrote.{Wrote}
use Rattle.printing.specs.Appended.{HasRoom, written, behind, Appended}

-- ---- a run in the writer's bytes
module _ (w : Writer) where
  -- the run stands behind what was written
  run_stands : (run now : List ℕ) → HasRoom run w → now ≡ take w.len w.bytes.now ++ (run ++ drop (length run) (drop w.len w.bytes.now))
      → (n : ℕ) → n ≡ length run → Appended run w (record { bytes = set_vals now w.bytes; len = w.len + n })
  run_stands run now room e n size =
      let front = take w.len w.bytes.now in
      let rest = drop (length run) (drop w.len w.bytes.now) in
      let some : w.len ≤ length w.bytes.now = omega (arith, room.fits) in
      let long : length (front ++ run) ≡ w.len + n = length-append front run ∙ omega (arith, size, length-take-le w.len w.bytes.now some) in
      let parts : now ≡ (front ++ run) ++ rest = e ∙ sym (append_assoc front run rest) in
      record {
        same_bytes = refl;
        count = omega (arith, size);
        written = ap (λ (l : List ℕ). take (w.len + n) l) parts ∙ take_at (front ++ run) rest (w.len + n) long;
        behind = ap (λ (l : List ℕ). drop (w.len + n) l) parts ∙ drop_at (front ++ run) rest (w.len + n) long;
      }

  -- a run was copied there
  pub run_put : {run part : List ℕ} {n : ℕ} → HasRoom run w → n ≡ length run → part ≡ run
      → Appended run w (record { bytes = set_vals (put_mid w.len (w.len + n - w.len) w.bytes.now part) w.bytes; len = w.len + n })
  run_put {run} {part} {n} room size e =
      let count : w.len + n - w.len ≡ length run = omega (arith, size) in
      run_stands run (put_mid w.len (w.len + n - w.len) w.bytes.now part) room (rw (count, e) refl) n size

  -- a byte was stored there
  pub byte_put : {x : ℕ} → HasRoom (x ∷ []) w → Appended (x ∷ []) w (record { bytes = set_vals (set w.bytes.now w.len x) w.bytes; len = w.len + 1 })
  byte_put {x} room =
      let some : w.len < length w.bytes.now = omega (arith, room.fits) in
      let inside : w.len ≤ length w.bytes.now = omega (arith, room.fits) in
      let next = drop_next w.bytes.now w.len 0 some in
      let front = take w.len w.bytes.now in
      let rest = drop (w.len + 1) w.bytes.now in
      let whole : front ++ get_or w.bytes.now w.len 0 ∷ rest ≡ w.bytes.now =
      ap (λ (l : List ℕ). front ++ l) (sym next) ∙ take-append-drop w.len w.bytes.now in
      let stored : set w.bytes.now w.len x ≡ front ++ x ∷ rest =
      ap (λ (l : List ℕ). set l w.len x) (sym whole) ∙ set_at front (get_or w.bytes.now w.len 0) rest x w.len (length-take-le w.len w.bytes.now inside) in
      run_stands (x ∷ []) (set w.bytes.now w.len x) room (stored ∙ rw next refl) 1 refl

-- nothing is written
pub appended_none : {w : Writer} → Appended [] w w
appended_none {w} = record { same_bytes = refl; count = omega arith; written = sym (append-nil (written w)); behind = refl }

-- two runs written after one another are one run of both
pub appended_both : {a b : List ℕ} {s t u : Writer} → Appended a s t → Appended b t u → Appended (a ++ b) s u
appended_both {a} {b} {s} {t} {u} x y =
    record {
      same_bytes = y.same_bytes ∙ x.same_bytes;
      count = omega (arith, x.count, y.count, length-append a b);
      written = y.written ∙ ap (λ (l : List ℕ). l ++ b) x.written ∙ append_assoc (written s) a b;
      behind = y.behind ∙ ap (λ (l : List ℕ). drop (length b) l) x.behind ∙ rw (length-append a b) (drop-drop (length b) (length a) (behind s));
    }

-- there are as many lent bytes as before
pub appended_long : {a : List ℕ} {s t : Writer} → Appended a s t → HasRoom a s → length t.bytes.now ≡ length s.bytes.now
appended_long {a} {s} {t} x room =
    let whole : length (written t) + length (behind t) ≡ length t.bytes.now =
    sym (length-append (written t) (behind t)) ∙ ap length (take-append-drop t.len t.bytes.now) in
    let front : length (written t) ≡ length (written s) + length a = ap length x.written ∙ length-append (written s) a in
    omega (arith, room.fits, whole, front, ap length x.behind, length-drop (length a) (behind s), length-take s.len s.bytes.now, length-drop s.len s.bytes.now)

-- where two runs fit the first does, and behind it the second
pub room_front : {a : List ℕ} {w : Writer} (b : List ℕ) → HasRoom (a ++ b) w → HasRoom a w
room_front {a} b room = record { fits = omega (arith, room.fits, length-append a b) }

pub room_behind : {a b : List ℕ} {s t : Writer} → HasRoom (a ++ b) s → Appended a s t → HasRoom b t
room_behind {a} {b} {s} {t} room x =
    record { fits = omega (arith, room.fits, x.count, appended_long x (room_front b room), length-append a b) }

-- ---- all that a new writer writes
module _ {whole out : List ℕ} {new : Writer} (none : (new.bytes.now ≡ out) × (new.len ≡ 0)) where
  pub new_room : length whole ≤ length out → HasRoom whole new
  new_room fits = record { fits = omega (arith, fits, none.1, ap length none.0) }

  -- the lent bytes end as the writer's
  pub new_wrote : {now : Writer} {end : List ℕ} {n : ℕ} → Appended whole new now → end ≡ now.bytes.now → n ≡ now.len → Wrote whole out end n
  new_wrote {now} x ends counts =
      let front : written new ≡ [] = rw none.1 refl in
      let rest : behind new ≡ out = rw (none.1, none.0) refl in
      let parts : whole ++ behind now ≡ now.bytes.now =
      ap (λ (l : List ℕ). l ++ behind now) (rw front at (sym x.written)) ∙ take-append-drop now.len now.bytes.now in
      record { count = omega (arith, counts, x.count, none.1); after = ends ∙ sym (rw (← rest, ← x.behind) parts) }

-- of the bytes `whole` those before `left` are written, and there is room for `left`
pub record Onward (whole : List ℕ) (start now : Writer) (left : List ℕ) : Type 0 where
  pub done : List ℕ
  pub all : done ++ left ≡ whole
  pub appended : Appended done start now
  pub room : HasRoom left now

-- nothing is written
pub onward_start : {whole : List ℕ} {w : Writer} → HasRoom whole w → Onward whole w w whole
onward_start fits = record { done = []; all = refl; appended = appended_none; room = fits }

module _ {whole : List ℕ} {start now : Writer} {left : List ℕ} (o : Onward whole start now left) where
  -- there is room for the next run
  pub onward_room : (run left' : List ℕ) → left ≡ run ++ left' → HasRoom run now
  onward_room run left' e = room_front left' (subst (λ (l : List ℕ). HasRoom l now) e o.room)

  -- the next run is written
  pub onward_next : {run left' : List ℕ} {next : Writer} → Appended run now next → left ≡ run ++ left' → Onward whole start next left'
  onward_next {run} {left'} {next} w e =
      record {
        done = o.done ++ run;
        all = append_assoc o.done run left' ∙ ap (λ (l : List ℕ). o.done ++ l) (sym e) ∙ o.all;
        appended = appended_both o.appended w;
        room = room_behind (subst (λ (l : List ℕ). HasRoom l now) e o.room) w;
      }

  -- nothing is left
  pub onward_end : left ≡ [] → Appended whole start now
  onward_end e = rw (← o.all, e, append-nil) o.appended

-- ---- runs of one kind, one for each element of a list
module _ {A : Type 0} where
  -- the runs of the first k elements are written
  pub record Listing (f : A → List ℕ) (l : List A) (start now : Writer) (k : ℕ) : Type 0 where
    pub inside : k ≤ length l
    pub onward : Onward (flat_map f l) start now (flat_map f (drop k l))

  module _ {f : A → List ℕ} {l : List A} {start now : Writer} {k : ℕ} (s : Listing f l start now k) where
    module _ (d : A) (h : k < length l) where
      -- what is left is the run of the next element and those of the others
      next_run : flat_map f (drop k l) ≡ f (get_or l k d) ++ flat_map f (drop (k + 1) l)
      unfolding flat_map
      next_run = rw (drop_next l k d h)

      pub listing_room : HasRoom (f (get_or l k d)) now
      listing_room = onward_room s.onward (f (get_or l k d)) (flat_map f (drop (k + 1) l)) next_run

      pub listing_next : {next : Writer} → Appended (f (get_or l k d)) now next → Listing f l start next (k + 1)
      listing_next w = record { inside = omega arith; onward = onward_next s.onward w next_run }

    pub listing_end : length l ≤ k → Appended (flat_map f l) start now
    unfolding flat_map
    listing_end h = onward_end s.onward (rw (drop_of_length-le l h))
