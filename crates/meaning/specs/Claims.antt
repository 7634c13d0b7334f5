-- What is proved of the definitions, as statements over the limits. The proofs are in proofs/, each under the name given here.
use Rattle.std.specs.Prelude.{◌≡◌, ◌⊎◌, ◌↔◌, true, ℕ, ◌+◌, ◌*◌, ◌≤◌, ◌<◌, length, take, drop, replicate}
use Rattle.std.proofs.Math.Option.{Option, none, some}
use mathlib.Core.List.{List, [], ◌∷◌, ◌++◌, map, Permᴰ}
use Rattle.meaning.specs.declared.Limits.{Limits}
use Rattle.meaning.specs.declared.Place.{Place}
use Rattle.meaning.specs.declared.Answer.{Answer}
use Rattle.meaning.specs.declared.Written.{Written}
use Rattle.meaning.specs.Lists.{In, Every}
use Rattle.meaning.specs.Limits.{named}
use Rattle.meaning.specs.Model.{Instance, Truck, Stack, Item}
use Rattle.meaning.specs.Table.{words, instance_in, stacks_in}
use Rattle.meaning.specs.Places.{lowest}
use Rattle.meaning.specs.Rules.{Rule, rules, loading_rules}
use Rattle.meaning.specs.Verdict.{cost}
use Rattle.meaning.specs.Check.{refused, readable, read_files, answer, table_after}
use Rattle.meaning.specs.Feasible.{LoadingFeasible, Feasible}
use Rattle.meaning.specs.Reorder.{Reordered}
use Rattle.meaning.specs.Stopped.{HandedBackRefused}
use Rattle.meaning.specs.Print.{printed_instance, printed_plan}
use Rattle.meaning.specs.Write.{stored, write_files, written, over, instance_after, plan_after}
use Rattle.meaning.specs.Files.{Field, item_fields, truck_fields, stack_fields}
use Rattle.meaning.specs.InRange.{InRange, NoClash, Fits}
use Rattle.meaning.specs.Measures.{used_trucks}

-- two files that can be read, and what they say
pub record Readable (m : Limits) (instance plan : List ℕ) : Type 0 where
  pub says : Instance
  pub stacks : List Stack
  pub read : read_files m instance plan ≡ readable says stacks

-- ---- the lowest place (proofs/Lowest: lowest_is)
-- p comes before q: by the first, then the second, then the third
abbrev pub Before : Place → Place → Type 0
Before p q = (p.first < q.first) ⊎ ((p.first ≡ q.first) × ((p.second < q.second) ⊎ ((p.second ≡ q.second) × (p.third < q.third))))

-- a listed place with none before it; none where no place is listed
abbrev pub IsLowest : List Place → Option Place → Type 0
IsLowest ps none = ps ≡ []
IsLowest ps (some p) = In p ps × ((q : Place) → In q ps → Before q p → ⊥)

-- what is answered as the lowest place is the lowest
abbrev pub LowestPlace : Type 0
LowestPlace = (ps : List Place) → IsLowest ps (lowest ps)

-- ---- the fields of a line (proofs/InRange: fields_named_lem)
-- the values that the names of some fields have, in the order of the fields
abbrev pub values : {A : Type 0} → List (Field A) → A → List ℕ
values fields a = map (λ f. f.value a) fields

-- the names in Files stand in the order of the line: their values (Model) are its entries
pub record FieldsNamed : Type 0 where
  pub item : (a : Item) → length a ≡ 16 → values (item_fields a) a ≡ a
  pub truck : (t : Truck) → length t.fields ≡ 20 → values truck_fields t ≡ t.fields
  pub stack : (trucks : ℕ) (s : Stack) → length s.fields ≡ 6 → values (stack_fields trucks) s ≡ s.fields

-- ---- reading (proofs/Ranges: read_in_range_lem, read_fits; proofs/Printed: read_printed_lem)
-- what is read has every entry in range
abbrev pub ReadInRange : Limits → Type 0
ReadInRange m = (instance plan : List ℕ) (r : Readable m instance plan) → InRange m r.says r.stacks

-- and has room in the table
abbrev pub ReadFits : Limits → Type 0
ReadFits m = (instance plan : List ℕ) (r : Readable m instance plan) → Fits m r.says r.stacks

-- files that can be read are exactly what they say, written out
pub record IsPrinted (instance plan : List ℕ) (i : Instance) (p : List Stack) : Type 0 where
  pub says : instance ≡ printed_instance i
  pub stacks : plan ≡ printed_plan p

-- readable files are printed models
abbrev pub ReadPrinted : Limits → Type 0
ReadPrinted m = (instance plan : List ℕ) (r : Readable m instance plan) → IsPrinted instance plan r.says r.stacks

-- ---- what reading means, without a reader (proofs/ReadExactly: read_exactly_lem)
-- two files that are a model written out, with every entry in range, no code clash and few enough bytes
pub record Legible (m : Limits) (instance plan : List ℕ) (i : Instance) (p : List Stack) : Type 0 where
  pub printed : IsPrinted instance plan i p
  pub in_range : InRange m i p
  pub no_clash : NoClash i
  pub instance_bytes : length instance ≤ m.bytes
  pub plan_bytes : length plan ≤ m.bytes

-- the counts of the limits are numbers that a file can have: "1 to 10 decimal digits"
pub record TenDigitLimits (m : Limits) : Type 0 where
  pub items : m.items ≤ 9999999999
  pub trucks : m.trucks ≤ 9999999999
  pub stacks : m.stacks ≤ 9999999999

-- two files are read as a model exactly when they are that model, legibly
abbrev pub ReadExactly : Limits → Type 0
ReadExactly m =
    TenDigitLimits m → (instance plan : List ℕ) (i : Instance) (p : List Stack)
    → (read_files m instance plan ≡ readable i p) ↔ Legible m instance plan i p

-- ---- the table (proofs/Decode: decodes)
-- the words of a model with room in the table hold that model, and are as many as are named
pub record Decoded (m : Limits) (table : List ℕ) (i : Instance) (p : List Stack) : Type 0 where
  pub instance : instance_in m table ≡ i
  pub stacks : stacks_in m table ≡ p
  pub size : length table ≡ named m

-- this holds of every model that the table has room for, so a table can be read back
abbrev pub Decodes : Limits → Type 0
Decodes m = (i : Instance) (p : List Stack) → Fits m i p → Decoded m (words m i p) i p

-- ---- demand 1 on the definitions (proofs/TableAfter: table_after_lem, read_refused_lem)
-- a check that found the words table₀ leaves the words table
pub record TablePromise (m : Limits) (instance plan table₀ table : List ℕ) : Type 0 where
  -- a short table is untouched
  pub short : length table₀ < named m → table ≡ table₀
  -- it has as many words as before, and words beyond the named ones are untouched
  pub size : length table ≡ length table₀
  pub beyond : drop (named m) table ≡ drop (named m) table₀
  -- the named words are zero if a file cannot be read
  pub zero : named m ≤ length table₀ → (a : Answer) → read_files m instance plan ≡ refused a → take (named m) table ≡ replicate (named m) 0
  -- otherwise they are exactly what the files say, and hold it
  pub filled : named m ≤ length table₀ → (r : Readable m instance plan) → take (named m) table ≡ words m r.says r.stacks
  pub holds : named m ≤ length table₀ → (r : Readable m instance plan) → Decoded m (take (named m) table) r.says r.stacks

-- this holds after every check, whatever the files and the table were
abbrev pub TableAfter : Limits → Type 0
TableAfter m = (table instance plan : List ℕ) → TablePromise m instance plan table (table_after m table instance plan)

-- files that cannot be read have one of the verdicts 2 to 8, without cost and trucks
pub record RefusedReading (a : Answer) : Type 0 where
  pub from : 2 ≤ a.number
  pub up_to : a.number ≤ 8
  pub cost : a.cost ≡ 0
  pub trucks : a.trucks ≡ 0

-- this holds of every refusal of files, so none of them looks like an acceptance
abbrev pub ReadRefused : Limits → Type 0
ReadRefused m = (instance plan : List ℕ) (a : Answer) → read_files m instance plan ≡ refused a → RefusedReading a

-- ---- "A plan is readable when none of 1 to 8 arises" (proofs/Readable: readable_exactly_lem)
-- the table is long enough, and the two files can be read
pub record ReadableInto (m : Limits) (tableLength : ℕ) (instance plan : List ℕ) : Type 0 where
  pub room : named m ≤ tableLength
  pub files : Readable m instance plan

-- an answer's number that accepts the plan or is that of a rule
abbrev pub NoneOf1To8 : ℕ → Type 0
NoneOf1To8 n = (n ≡ 0) ⊎ (9 ≤ n)

-- so the number tells whether the plan is readable
abbrev pub ReadableExactly : Limits → Type 0
ReadableExactly m =
    (tableLength : ℕ) (instance plan : List ℕ)
    → ReadableInto m tableLength instance plan ↔ NoneOf1To8 (answer m tableLength instance plan).number

-- ---- the verdict, rule by rule (proofs/Readable: decided)
-- a rule is kept where it lists no place
abbrev pub KeptBy : Instance → List Stack → Rule → Type 0
KeptBy i p r = r.places i p ≡ []

-- an answer that accepts: "0 accepts, with places 0", the cost and the used trucks
pub record Accepts (i : Instance) (p : List Stack) (a : Answer) : Type 0 where
  pub number : a.number ≡ 0
  pub first : a.first ≡ 0
  pub second : a.second ≡ 0
  pub third : a.third ≡ 0
  pub cost : a.cost ≡ cost i p
  pub trucks : a.trucks ≡ length (used_trucks p)

-- accepted exactly when no rule lists a place
pub record AcceptedExactly (i : Instance) (p : List Stack) (a : Answer) : Type 0 where
  pub exactly : (a.number ≡ 0) ↔ Every (KeptBy i p) rules
  pub accepts : Every (KeptBy i p) rules → Accepts i p a

-- the first of some rules that lists a place, and the lowest of its places
pub record FirstBroken (rs : List Rule) (i : Instance) (p : List Stack) : Type 0 where
  pub before : List Rule
  pub broken : Rule
  pub after : List Rule
  pub place : Place
  pub order : rs ≡ before ++ broken ∷ after
  pub kept : Every (KeptBy i p) before
  pub lowest : IsLowest (broken.places i p) (some place)

-- an answer that refuses by such a rule: its number and its lowest place; "A refusal has cost and trucks 0"
pub record Refuses {i : Instance} {p : List Stack} (f : FirstBroken rules i p) (a : Answer) : Type 0 where
  pub number : a.number ≡ f.broken.verdict
  pub first : a.first ≡ f.place.first
  pub second : a.second ≡ f.place.second
  pub third : a.third ≡ f.place.third
  pub cost : a.cost ≡ 0
  pub trucks : a.trucks ≡ 0

-- otherwise some rule is the first that is broken, and it refuses
pub record RefusedExactly (i : Instance) (p : List Stack) (a : Answer) : Type 0 where
  pub broken : (a.number ≡ 0 → ⊥) → FirstBroken rules i p
  pub refuses : (f : FirstBroken rules i p) → Refuses f a

-- demand 2: the answer to a readable plan is decided by the rules alone
pub record DecidedBy (i : Instance) (p : List Stack) (a : Answer) : Type 0 where
  pub accepted : AcceptedExactly i p a
  pub refused : RefusedExactly i p a

-- this holds of every readable plan
abbrev pub Decided : Limits → Type 0
Decided m =
    (tableLength : ℕ) (instance plan : List ℕ) (r : ReadableInto m tableLength instance plan)
    → DecidedBy r.files.says r.files.stacks (answer m tableLength instance plan)

-- ---- demand 3 (proofs/Feasible: loading_kept_exactly_lem, accepted_when_feasible_lem; proofs/AnyOrder: order_free_lem, any_order)
-- a readable plan keeps all rules but 9 exactly when its picture holds but for rule 9
abbrev pub LoadingKeptExactly : Limits → Type 0
LoadingKeptExactly m =
    (instance plan : List ℕ) (r : Readable m instance plan)
    → Every (KeptBy r.says r.stacks) loading_rules ↔ LoadingFeasible r.says r.stacks

-- a readable plan is accepted exactly when its picture holds
abbrev pub AcceptedWhenFeasible : Limits → Type 0
AcceptedWhenFeasible m =
    (tableLength : ℕ) (instance plan : List ℕ) (r : ReadableInto m tableLength instance plan)
    → ((answer m tableLength instance plan).number ≡ 0) ↔ Feasible r.files.says r.files.stacks

-- a readable plan with its stacks in another order is readable and has the same answer
abbrev pub OrderFree : Limits → Type 0
OrderFree m =
    (tableLength : ℕ) (instance plan plan' : List ℕ) → Readable m instance plan → Reordered plan plan'
    → Readable m instance plan' × (answer m tableLength instance plan' ≡ answer m tableLength instance plan)

-- each order p' of the stacks is that of a plan which the reordering reaches and which is read as p'
pub record InOrder (m : Limits) (instance plan : List ℕ) (i : Instance) (p' : List Stack) : Type 0 where
  pub reordered : Reordered plan (printed_plan p')
  pub read : read_files m instance (printed_plan p') ≡ readable i p'

-- this holds of every order of a readable plan, so `OrderFree` is about all of them
abbrev pub AnyOrder : Limits → Type 0
AnyOrder m =
    (instance plan : List ℕ) (r : Readable m instance plan) (p' : List Stack) → Permᴰ r.stacks p'
    → InOrder m instance plan r.says p'

-- ---- F-1: the files written back from a table (proofs/Short: printed_short_lem; proofs/Stored: stored_exactly_lem; proofs/WriteBack: writes_back_lem)
-- how many bytes the files of a model in range have at most: a number of an item's or a truck's line has at most seven digits, any other ten, and
-- one byte stands behind each. So an item's line has 133 bytes, a truck's lines 1140, a stack's line 72, a load's line 5 and 11 for each entry
abbrev pub instance_most : Limits → ℕ
instance_most m = 85 + 133 * m.items + 1140 * m.trucks

abbrev pub plan_most : Limits → ℕ
plan_most m = 18 + 77 * m.stacks + 11 * m.loads

-- this follows from the ranges
abbrev pub PrintedShort : Limits → Type 0
PrintedShort m =
    (i : Instance) (p : List Stack) → InRange m i p → (length (printed_instance i) ≤ instance_most m) × (length (printed_plan p) ≤ plan_most m)

-- two files can be read, and a check of them fills the named words of the table with what stands there
pub record FilledBy (m : Limits) (table instance plan : List ℕ) : Type 0 where
  pub room : named m ≤ length table
  pub files : Readable m instance plan
  pub fills : take (named m) (table_after m table instance plan) ≡ take (named m) table

-- some two files are such: "a table filled by the check"
pub record FilledBySome (m : Limits) (table : List ℕ) : Type 0 where
  pub instance : List ℕ
  pub plan : List ℕ
  pub filled : FilledBy m table instance plan

-- the test of the words tells exactly this
abbrev pub StoredExactly : Limits → Type 0
StoredExactly m = (table : List ℕ) → (stored m table ≡ true) ↔ FilledBySome m table

-- "each into a lent buffer of 65,535 bytes or more"
pub record Roomy (m : Limits) (instance plan : List ℕ) : Type 0 where
  pub instance_room : m.bytes ≤ length instance
  pub plan_room : m.bytes ≤ length plan

-- two files stand in the buffers, with what stood behind them, and their lengths are answered
pub record HoldsFiles (file₁ file₂ instance₀ plan₀ instance plan : List ℕ) (r : Written) : Type 0 where
  pub number : r.number ≡ 0
  pub instance_length : r.instance_length ≡ length file₁
  pub plan_length : r.plan_length ≡ length file₂
  pub instance_bytes : instance ≡ over file₁ instance₀
  pub plan_bytes : plan ≡ over file₂ plan₀

-- nothing is written: "both lengths are then 0 and both buffers untouched"
pub record NothingWritten (instance₀ plan₀ instance plan : List ℕ) (r : Written) : Type 0 where
  pub instance_length : r.instance_length ≡ 0
  pub plan_length : r.plan_length ≡ 0
  pub instance_bytes : instance ≡ instance₀
  pub plan_bytes : plan ≡ plan₀

-- a writing from a table, which found the bytes instance₀ and plan₀ in the buffers and left instance and plan
pub record WritingPromise (m : Limits) (table instance₀ plan₀ instance plan : List ℕ) (r : Written) : Type 0 where
  -- which number is answered: 29 before 30, and 0 otherwise
  pub short : (r.number ≡ 29) ↔ (Roomy m instance₀ plan₀ → ⊥)
  pub unfilled : (r.number ≡ 30) ↔ (Roomy m instance₀ plan₀ × (FilledBySome m table → ⊥))
  pub writes : (r.number ≡ 0) ↔ (Roomy m instance₀ plan₀ × FilledBySome m table)
  -- "both lengths are then 0 and both buffers untouched"
  pub refused : (r.number ≡ 0 → ⊥) → NothingWritten instance₀ plan₀ instance plan r
  -- "at most 65,535"
  pub instance_length : r.instance_length ≤ m.bytes
  pub plan_length : r.plan_length ≤ m.bytes
  -- "A file read and written out is the same bytes": of the files that a check filled the table with, whatever it found there
  pub same_bytes : Roomy m instance₀ plan₀ → (file₁ file₂ table₀ : List ℕ) → Readable m file₁ file₂ → named m ≤ length table₀
      → table_after m table₀ file₁ file₂ ≡ table → HoldsFiles file₁ file₂ instance₀ plan₀ instance plan r
  -- "the written pair read back gives the same named words", whatever the table held that it is read into
  pub same_words : r.number ≡ 0 → (table₀ : List ℕ) → named m ≤ length table₀
      → take (named m) (table_after m table₀ (take r.instance_length instance) (take r.plan_length plan)) ≡ take (named m) table

-- this holds of every table and all buffers
abbrev pub WritesBack : Limits → Type 0
WritesBack m =
    (table instance plan : List ℕ)
    → let w = write_files m table (length instance) (length plan) in
    WritingPromise m table instance plan (instance_after w instance) (plan_after w plan) (written w)

-- ---- all of them, for limits m (proofs/Theorems: theorems)
pub record Theorems (m : Limits) : Type 0 where
  pub lowest_place : LowestPlace
  pub fields_named : FieldsNamed
  pub read_in_range : ReadInRange m
  pub read_fits : ReadFits m
  pub read_printed : ReadPrinted m
  pub read_exactly : ReadExactly m
  pub read_refused : ReadRefused m
  pub decodes : Decodes m
  pub table_after : TableAfter m
  pub handed_back_refused : HandedBackRefused m
  pub readable_exactly : ReadableExactly m
  pub decided : Decided m
  pub loading_kept_exactly : LoadingKeptExactly m
  pub accepted_when_feasible : AcceptedWhenFeasible m
  pub order_free : OrderFree m
  pub any_order : AnyOrder m
  pub printed_short : PrintedShort m
  pub stored_exactly : StoredExactly m
  pub writes_back : WritesBack m
