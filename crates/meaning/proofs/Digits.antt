-- A number that was read is its digits written out, and a line that was read is its numbers written out.
use mathlib.Core.Path.{◌≡◌, refl, sym, ap, ap₂, ◌∙◌}
use mathlib.Core.Bool.{Bool, true, false, cond, not, ◌&&◌}
use mathlib.Core.Option.{Option, none, some}
use mathlib.Core.List.{List, [], ◌∷◌, ◌++◌, map}
use Prim.Native.Nat.{ℕ, zero, suc, ◌+◌, ◌*◌, ◌-◌, ◌/◌, ◌%◌, ◌≤◌}
use Prim.Native.String.{String}
use native.Mathlib.Nat.{add-zero}
use native.Mathlib.Omega.{arith}
use borrow.Author.Tests.{le-ltb}
use lib.Dec.{ltb, eqb}
use lib.ListN.{length}
use Rattle.meaning.specs.Lists.{between}
use Rattle.meaning.specs.Text.{bytes, is_digit, decimal_from, needless_zero, number, and_numbers, numbers, onto_first, comma_parts}
use Rattle.meaning.specs.Text.{value_after, numbers_of, line_numbers}
use Rattle.meaning.specs.Print.{digits_onto, digits, comma_joined, printed_line}
use Rattle.meaning.proofs.Tests.{not_reads, and_reads, lt_reads, eq_reads, between_reads}
use Rattle.meaning.proofs.Lists.{no_cons}

-- a choice that gave something passed its test
pub chosen : {A : Type 0} (b : Bool) (o : Option A) (a : A) → cond b o none ≡ some a → (b ≡ true) × (o ≡ some a)
chosen true o a e = (refl, e)
chosen false o a e = (cc, cc)

-- ---- a number
-- a byte that is a digit is 48 and at most 9 more
digit_worth : (b : ℕ) → is_digit b ≡ true → (48 + (b - 48) ≡ b) × (b - 48 ≤ 9)
digit_worth b e = let h = (between_reads 48 57 b).0 e in (omega arith, omega arith)

-- the last digit of a larger number is written first, in front of what is written already
one_more : (most v d : ℕ) (tail : List ℕ) → 1 ≤ v → d ≤ 9 → digits_onto (suc most) (10 * v + d) tail ≡ digits_onto most v ((48 + d) ∷ tail)
unfolding digits_onto
one_more most v d tail h k =
    let large : 10 ≤ 10 * v + d = omega arith in
    let q : (10 * v + d) / 10 ≡ v = omega arith in
    let r : (10 * v + d) % 10 ≡ d = omega arith in
    simp (le-ltb (10 * v + d) 10 large, q, r)

-- a number below 10 is its one digit
the_first : (most v : ℕ) (tail : List ℕ) → 1 ≤ most → v ≤ 9 → digits_onto most v tail ≡ (48 + v) ∷ tail
unfolding digits_onto
the_first zero v tail h k = absurd (omega arith)
the_first (suc most) v tail h k = rw ((lt_reads v 10).1 (omega arith))

-- where n was read from the digits of v and then bs, writing n out writes bs and goes on with v; only the whole number may be 0
decimal_printed : (bs : List ℕ) (most v n : ℕ) → (1 ≤ length bs → 1 ≤ v) → decimal_from v bs ≡ some n
    → digits_onto (most + length bs) n [] ≡ digits_onto most v bs
unfolding decimal_from
decimal_printed [] most v n h e = let k : v ≡ n = cc in rw (add-zero, k)
decimal_printed (b ∷ bs) most v n h e =
    let c = chosen (is_digit b) (decimal_from (10 * v + (b - 48)) bs) n e in
    let d = digit_worth b c.0 in
    let positive : 1 ≤ v = h (omega arith) in
    let fuel : most + suc (length bs) ≡ suc most + length bs = omega arith in
    ap (λ (f : ℕ). digits_onto f n []) fuel
    ∙ decimal_printed bs (suc most) (10 * v + (b - 48)) n (λ k. omega arith) c.1
    ∙ one_more most v (b - 48) bs positive d.1
    ∙ ap (λ (a : ℕ). digits_onto most v (a ∷ bs)) d.0

number_printed : (bs : List ℕ) (n : ℕ) → number bs ≡ some n → digits n ≡ bs
unfolding number decimal_from
number_printed [] n e = cc
number_printed (b ∷ bs) n e =
    let all = b ∷ bs in
    let c = chosen (between 1 10 (length all) && not (needless_zero all)) (decimal_from 0 all) n e in
    let t = (and_reads (between 1 10 (length all)) (not (needless_zero all))).0 c.0 in
    let size = (between_reads 1 10 (length all)).0 t.0 in
    let g = chosen (is_digit b) (decimal_from (10 * 0 + (b - 48)) bs) n c.1 in
    let d = digit_worth b g.0 in
    let needless = and_reads (ltb 1 (length all)) (eqb b 48) in
    let lead : 1 ≤ length bs → b ≡ 48 → ⊥ =
    λ k q. (not_reads (needless_zero all)).0 t.1 (needless.1 ((lt_reads 1 (length all)).1 (omega arith), (eq_reads b 48).1 q)) in
    let most : ℕ = 10 - length bs in
    let v : ℕ = 10 * 0 + (b - 48) in
    let fuel : 10 ≡ most + length bs = omega arith in
    let back : 48 + v ≡ b = omega arith in
    ap (λ (f : ℕ). digits_onto f n []) fuel
    ∙ decimal_printed bs most v n (λ k. let other = lead k in omega (arith, other)) g.1
    ∙ the_first most v bs (omega arith) (omega arith)
    ∙ ap (λ (a : ℕ). a ∷ bs) back

-- ---- a line
-- numbers that were read are the parts written out
numbers_printed : (parts : List (List ℕ)) (ns : List ℕ) → numbers parts ≡ some ns → map digits ns ≡ parts
unfolding numbers and_numbers
numbers_printed [] ns e = let z : ns ≡ [] = cc in ap (map digits) z
numbers_printed (part ∷ parts) ns e = go (numbers_printed parts) (number part) (numbers parts) refl refl e
  where
    go : ((ms : List ℕ) → numbers parts ≡ some ms → map digits ms ≡ parts) → (o : Option ℕ) (os : Option (List ℕ))
        → number part ≡ o → numbers parts ≡ os → and_numbers o os ≡ some ns → map digits ns ≡ part ∷ parts
    go rec none os e f k = cc
    go rec (some n) none e f k = cc
    go rec (some n) (some ms) e f k =
        let z : ns ≡ n ∷ ms = cc in
        ap (map digits) z ∙ ap₂ (λ (q : List ℕ) (qs : List (List ℕ)). q ∷ qs) (number_printed part n e) (rec ms f)

-- there is a part
some_part : (value : List ℕ) → comma_parts value ≡ [] → ⊥
unfolding comma_parts onto_first
some_part [] e = no_cons [] [] e
some_part (b ∷ value) e = go (comma_parts value) (eqb b 44) e
  where
    go : (parts : List (List ℕ)) (t : Bool) → cond t ([] ∷ parts) (onto_first b parts) ≡ [] → ⊥
    go parts true k = no_cons [] parts k
    go [] false k = no_cons (b ∷ []) [] k
    go (part ∷ parts) false k = no_cons (b ∷ part) parts k

-- a comma in front of some parts, and a byte onto the first part
joined_comma : (parts : List (List ℕ)) → (parts ≡ [] → ⊥) → comma_joined ([] ∷ parts) ≡ 44 ∷ comma_joined parts
unfolding comma_joined
joined_comma [] h = absurd (h refl)
joined_comma (part ∷ parts) h = refl

joined_onto : (b : ℕ) (parts : List (List ℕ)) → comma_joined (onto_first b parts) ≡ b ∷ comma_joined parts
unfolding comma_joined onto_first
joined_onto b [] = refl
joined_onto b (part ∷ []) = refl
joined_onto b (part ∷ next ∷ parts) = refl

-- the parts between commas, joined by commas, are the value
joined_parts : (value : List ℕ) → comma_joined (comma_parts value) ≡ value
unfolding comma_joined comma_parts
joined_parts [] = refl
joined_parts (b ∷ value) = go (eqb b 44) refl (joined_parts value)
  where
    go : (t : Bool) → eqb b 44 ≡ t → comma_joined (comma_parts value) ≡ value
        → comma_joined (cond t ([] ∷ comma_parts value) (onto_first b (comma_parts value))) ≡ b ∷ value
    go true e rec = joined_comma (comma_parts value) (some_part value) ∙ ap₂ (λ (c : ℕ) (w : List ℕ). c ∷ w) (sym ((eq_reads b 44).0 e)) rec
    go false e rec = joined_onto b (comma_parts value) ∙ ap (λ (w : List ℕ). b ∷ w) rec

-- a line that has a value is the key and the value
after_key : (key line value : List ℕ) → value_after key line ≡ some value → line ≡ key ++ value
unfolding value_after
after_key [] line value e = cc
after_key (k ∷ key) [] value e = cc
after_key (k ∷ key) (b ∷ line) value e =
    let c = chosen (eqb k b) (value_after key line) value e in
    ap₂ (λ (a : ℕ) (w : List ℕ). a ∷ w) (sym ((eq_reads k b).0 c.0)) (after_key key line value c.1)

pub line_printed : (key : String) (line ns : List ℕ) → line_numbers key line ≡ some ns → line ≡ printed_line key ns
unfolding line_numbers numbers_of printed_line
line_printed key line ns e = go (value_after (bytes key) line) refl e
  where
    go : (o : Option (List ℕ)) → value_after (bytes key) line ≡ o → numbers_of o ≡ some ns → line ≡ bytes key ++ comma_joined (map digits ns)
    go none a h = cc
    go (some value) a h =
        let joined : comma_joined (map digits ns) ≡ value = ap comma_joined (numbers_printed (comma_parts value) ns h) ∙ joined_parts value in
        after_key (bytes key) line value a ∙ ap (λ (w : List ℕ). bytes key ++ w) (sym joined)
