-- The numbers that the rules on axles work out, one by one in the shape of the code: each is within its bounds, so that no operation overflows.
use Prim.Native.Nat.{ℕ, ◌≤◌}
use lib.IntN.{ℤ, nat_abs}
use mir.Syntax.{w64}
use mir.Val.{SFits}
use Rattle.axles.specs.declared.AxleData.{AxleData}
use Rattle.axles.specs.Weights.{BoundedAxles}
use Rattle.axles.proofs.Signed.{Amount, unsigned, literal, given, plus, minus, times}

-- ---- a stack's lever
module _ {weight x xe twice : ℕ} (w : weight ≤ 3200000) (l : x ≤ 20000) (k : xe ≤ 40000) (t : twice ≤ 80000) where
  abbrev pub before : Amount
  before = minus (unsigned t tt) (unsigned l tt) tt

  abbrev pub distance : Amount
  distance = minus before (unsigned k tt) tt

  abbrev pub lever : Amount
  lever = times (unsigned w tt) distance tt

-- ---- H, and what it is compared with
module _ {a : AxleData} (b : BoundedAxles a) where
  -- the trailer
  abbrev pub trailer_twice : Amount
  trailer_twice = times (literal 2 tt) (unsigned b.em tt) tt

  abbrev pub trailer : Amount
  trailer = times trailer_twice (unsigned b.ejcr tt) tt

  -- the tractor
  abbrev pub harness_twice : Amount
  harness_twice = times (literal 2 tt) (unsigned b.ejhr tt) tt

  abbrev pub heavy : Amount
  heavy = times harness_twice (unsigned b.cm tt) tt

  abbrev pub tractor : Amount
  tractor = times heavy (unsigned b.cjfc tt) tt

  -- what the axles bear at most
  abbrev pub reach : Amount
  reach = times harness_twice (unsigned b.cjfm tt) tt

  abbrev pub middle_most : Amount
  middle_most = times reach (unsigned b.emmm tt) tt

  abbrev pub rear_most : Amount
  rear_most = times harness_twice (unsigned b.emmr tt) tt

  module _ {z : ℤ} (f : SFits w64 z) (h : nat_abs z ≤ 262144000000000) where
    abbrev pub moment : Amount
    moment = plus (given f h) trailer tt

  module _ {z : ℤ} (f : SFits w64 z) (h : nat_abs z ≤ 262146000000000) where
    -- what the middle axle bears
    abbrev pub load : Amount
    load = times (given f h) (unsigned b.cjfh tt) tt

    abbrev pub middle : Amount
    middle = plus tractor load tt

  module _ {weight : ℕ} (w : weight ≤ 3276800000) where
    -- what the rear axle bears, and what the harness takes of it
    abbrev pub loaded : Amount
    loaded = plus (unsigned w tt) (unsigned b.em tt) tt

    abbrev pub turned : Amount
    turned = times harness_twice loaded tt

    module _ {z : ℤ} (f : SFits w64 z) (h : nat_abs z ≤ 262146000000000) where
      abbrev pub rear : Amount
      rear = minus turned (given f h) tt
