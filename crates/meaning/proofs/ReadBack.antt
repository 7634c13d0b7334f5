-- Numbers and lines that are written out are read back, and a line that is written out is one line.
use mathlib.Core.Path.{◌≡◌, refl, sym, ap, ◌∙◌}
use mathlib.Core.Logic.{⊎_elim}
use mathlib.Core.Bool.{Bool, true, false, cond}
use mathlib.Core.Option.{some}
use mathlib.Core.List.{List, [], ◌∷◌, ◌++◌, map}
use Prim.Native.Nat.{ℕ, zero, suc, ◌+◌, ◌*◌, ◌-◌, ◌/◌, ◌%◌, ◌≤◌, ◌<◌}
use Prim.Native.String.{String}
use native.Mathlib.Omega.{arith}
use lib.Dec.{ltb, eqb}
use lib.ListN.{length, get_or}
use Rattle.meaning.specs.Lists.{In, Every, listed}
use Rattle.meaning.specs.Text.{bytes, decimal_from, needless_zero, number, and_numbers, numbers, comma_parts, value_after, numbers_of, line_numbers}
use Rattle.meaning.specs.Reorder.{OneLine}
use Rattle.meaning.specs.Print.{digits_onto, digits, comma_joined, printed_line}
use Rattle.meaning.proofs.Tests.{true≢false, fails, not_reads, and_reads, eq_reads, between_reads, by_less}
use Rattle.meaning.proofs.Lists.{in_append, listed_reads, every_reads, every_append, every_map}
use Rattle.meaning.proofs.Outcomes.{not_listed}

-- ---- bytes that a written line does not have
abbrev NotIn : ℕ → List ℕ → Type 0
NotIn c l = listed c l ≡ false

not_in : (c : ℕ) (l : List ℕ) → (In c l → ⊥) → NotIn c l
not_in c l f = fails (listed c l) (λ e. f ((listed_reads c l).0 e))

not_in_append : (c : ℕ) (l l' : List ℕ) → NotIn c l → NotIn c l' → NotIn c (l ++ l')
not_in_append c l l' h k =
    let out : (w : List ℕ) → NotIn c w → In c w → ⊥ = λ w e i. true≢false (sym ((listed_reads c w).1 i) ∙ e) in
    not_in c (l ++ l') (λ i. ⊎_elim (out l h) (out l' k) ((in_append c l l').0 i))

-- every byte is at least `low`
abbrev From : ℕ → List ℕ → Type 0
From low l = Every (λ (b : ℕ). low ≤ b) l

-- then a lower one is not there
below : (c low : ℕ) (l : List ℕ) → c < low → From low l → NotIn c l
below c low l h k = not_in c l (λ i. let z : low ≤ c = (every_reads (λ (b : ℕ). low ≤ b) l).0 k c i in absurd (omega arith))

-- digits are bytes from 48 on, and with commas from 44 on
digits_from : (most n : ℕ) (tail : List ℕ) → From 48 tail → From 48 (digits_onto most n tail)
unfolding digits_onto
digits_from zero n tail h = h
digits_from (suc most) n tail h = go (ltb n 10) (digits_from most (n / 10) ((48 + n % 10) ∷ tail) (omega arith, h))
  where
    go : (t : Bool) → From 48 (digits_onto most (n / 10) ((48 + n % 10) ∷ tail))
        → From 48 (cond t ((48 + n) ∷ tail) (digits_onto most (n / 10) ((48 + n % 10) ∷ tail)))
    go true k = (omega arith, h)
    go false k = k

joined_from : (ns : List ℕ) → From 44 (comma_joined (map digits ns))
unfolding comma_joined
joined_from [] = tt
joined_from (n ∷ []) = every_map _ _ (λ b h. omega arith) (digits n) (digits_from 10 n [] tt)
joined_from (n ∷ k ∷ ns) =
    (every_append _ (digits n) (44 ∷ comma_joined (map digits (k ∷ ns)))).1
    (every_map _ _ (λ b h. omega arith) (digits n) (digits_from 10 n [] tt), (omega arith, joined_from (k ∷ ns)))

-- no byte 10 stands in a line that is written out
pub line_one : (k : String) (ns : List ℕ) → OneLine (bytes k) → OneLine (printed_line k ns)
unfolding printed_line
line_one k ns h = not_in_append 10 (bytes k) (comma_joined (map digits ns)) h (below 10 44 (comma_joined (map digits ns)) (omega arith) (joined_from ns))

-- ---- a number is read back
-- 10 to the n: the least number of more than n digits
unfoldable pub tens : ℕ → ℕ
tens zero = 1
tens (suc n) = 10 * tens n

-- at most `most` digits are written
pub digits_most : (most n : ℕ) (tail : List ℕ) → length (digits_onto most n tail) ≤ most + length tail
unfolding digits_onto
digits_most zero n tail = omega arith
digits_most (suc most) n tail =
    by_less (λ (ds : List ℕ). length ds ≤ suc most + length tail) n 10 (λ small. omega arith)
    (λ large. omega (arith, digits_most most (n / 10) ((48 + n % 10) ∷ tail)))

-- a number below 10 to the k has at most k digits
pub digits_few : (most k n : ℕ) (tail : List ℕ) → 1 ≤ k → n < tens k → length (digits_onto most n tail) ≤ k + length tail
unfolding tens digits_onto
digits_few zero k n tail one h = omega arith
digits_few (suc most) zero n tail one h = absurd (omega arith)
digits_few (suc most) (suc zero) n tail one h =
    by_less (λ (ds : List ℕ). length ds ≤ 1 + length tail) n 10 (λ small. omega arith) (λ large. absurd (omega arith))
digits_few (suc most) (suc (suc k)) n tail one h =
    by_less (λ (ds : List ℕ). length ds ≤ suc (suc k) + length tail) n 10 (λ small. omega arith)
    (λ large. omega (arith, digits_few most (suc k) (n / 10) ((48 + n % 10) ∷ tail) (omega arith) (omega arith)))

-- reading one digit more
read_digit : (v d : ℕ) (tail : List ℕ) → d ≤ 9 → decimal_from v ((48 + d) ∷ tail) ≡ decimal_from (10 * v + d) tail
unfolding decimal_from
read_digit v d tail k = let e : 48 + d - 48 ≡ d = omega arith in rw ((between_reads 48 57 (48 + d)).1 (omega arith, omega arith), e)

-- the digits of n are worth n
digits_worth : (most n : ℕ) (tail : List ℕ) → n < tens most → decimal_from 0 (digits_onto most n tail) ≡ decimal_from n tail
unfolding tens digits_onto
digits_worth zero n tail h = let z : 0 ≡ n = omega arith in ap (λ (v : ℕ). decimal_from v tail) z
digits_worth (suc most) n tail h =
    by_less (λ (ds : List ℕ). decimal_from 0 ds ≡ decimal_from n tail) n 10
    (λ small. let z : 10 * 0 + n ≡ n = omega arith in read_digit 0 n tail (omega arith) ∙ ap (λ (v : ℕ). decimal_from v tail) z)
    (λ large.
    let z : 10 * (n / 10) + n % 10 ≡ n = omega arith in
    digits_worth most (n / 10) ((48 + n % 10) ∷ tail) (omega arith) ∙ read_digit (n / 10) (n % 10) tail (omega arith)
    ∙ ap (λ (v : ℕ). decimal_from v tail) z)

-- at least one digit and at most `most` in front of `tail`, and the first is no zero
record Shaped (most : ℕ) (tail ds : List ℕ) : Type 0 where
  some : 1 + length tail ≤ length ds
  few : length ds ≤ most + length tail
  first : 49 ≤ get_or ds 0 0

digits_shaped : (most n : ℕ) (tail : List ℕ) → 1 ≤ n → n < tens most → Shaped most tail (digits_onto most n tail)
unfolding tens digits_onto
digits_shaped zero n tail k h = absurd (omega arith)
digits_shaped (suc most) n tail k h =
    by_less (Shaped (suc most) tail) n 10 (λ small. record { some = omega arith; few = omega arith; first = omega arith })
    (λ large.
    let s = digits_shaped most (n / 10) ((48 + n % 10) ∷ tail) (omega arith) (omega arith) in
    record { some = omega (arith, s.some); few = omega (arith, s.few); first = s.first })

-- bytes of that shape are read digit by digit
shaped_number : (ds : List ℕ) → Shaped 10 [] ds → number ds ≡ decimal_from 0 ds
unfolding number
shaped_number ds h =
    let size = (between_reads 1 10 (length ds)).1 (h.some, omega (arith, h.few)) in
    let zeros = and_reads (ltb 1 (length ds)) (eqb (get_or ds 0 0) 48) in
    let lead = (not_reads (needless_zero ds)).1 (λ e. omega (arith, h.first, (eq_reads (get_or ds 0 0) 48).0 (zeros.0 e).1)) in
    rw (size, lead)

-- at most ten digits
abbrev pub TenDigits : ℕ → Type 0
TenDigits n = n < 10000000000

number_read : (n : ℕ) → TenDigits n → number (digits n) ≡ some n
unfolding number digits_onto tens decimal_from
number_read zero h = refl
number_read (suc n) h = shaped_number (digits (suc n)) (digits_shaped 10 (suc n) [] (omega arith) (omega arith)) ∙ digits_worth 10 (suc n) [] (omega arith)

numbers_read : (ns : List ℕ) → Every TenDigits ns → numbers (map digits ns) ≡ some ns
unfolding numbers and_numbers
numbers_read [] h = refl
numbers_read (n ∷ ns) h = rw (number_read n h.0, numbers_read ns h.1)

-- ---- a line is read back
-- parts without a comma are cut where they were joined
one_part : (part : List ℕ) → NotIn 44 part → comma_parts part ≡ part ∷ []
unfolding comma_parts
one_part [] h = refl
one_part (b ∷ part) h = let t = not_listed 44 b part h in rw (t.0, one_part part t.1)

next_part : (part value : List ℕ) → NotIn 44 part → comma_parts (part ++ 44 ∷ value) ≡ part ∷ comma_parts value
unfolding comma_parts
next_part [] value h = refl
next_part (b ∷ part) value h = let t = not_listed 44 b part h in rw (t.0, next_part part value t.1)

parts_read : (n : ℕ) (ns : List ℕ) → comma_parts (comma_joined (map digits (n ∷ ns))) ≡ map digits (n ∷ ns)
unfolding comma_joined
parts_read n [] = one_part (digits n) (below 44 48 (digits n) (omega arith) (digits_from 10 n [] tt))
parts_read n (k ∷ ns) =
    next_part (digits n) (comma_joined (map digits (k ∷ ns))) (below 44 48 (digits n) (omega arith) (digits_from 10 n [] tt))
    ∙ ap (λ (parts : List (List ℕ)). digits n ∷ parts) (parts_read k ns)

key_read : (key value : List ℕ) → value_after key (key ++ value) ≡ some value
unfolding value_after
key_read [] value = refl
key_read (b ∷ key) value = rw ((eq_reads b b).1 refl) (key_read key value)

pub line_read : (k : String) (ns : List ℕ) → 1 ≤ length ns → Every TenDigits ns → line_numbers k (printed_line k ns) ≡ some ns
unfolding line_numbers printed_line numbers_of
line_read k [] l h = absurd (omega arith)
line_read k (n ∷ ns) l h = ap numbers_of (key_read (bytes k) (comma_joined (map digits (n ∷ ns)))) ∙ ap numbers (parts_read n ns) ∙ numbers_read (n ∷ ns) h
