-- How far the next frame is: a working clock adds 2 ^ u units to the sample counter, and M of them make a frame. Assumes nothing.
use mathlib.Core.Path.{◌≡◌, refl, sym, ap, ap₂, ◌∙◌}
use mathlib.Core.Bool.{Bool, true, false, not}
use Prim.Native.Nat.{ℕ, zero, suc, ◌+◌, ◌-◌, ◌*◌, ◌/◌, ◌^◌, ◌≤◌, ◌<◌}
use native.Mathlib.Nat.{add-mul, one-mul, mul-one, mul-div_cancel, lt_of_lt_of_le, mul-le-mul_right}
use native.Mathlib.Omega.{arith}
use lib.Dec.{T, leb, leb→le, le→leb, nleb→lt, lit≤, lit<}
use lib.Pow.{pow_pos}
use lib.IntN.{pos}
use lib.Ieee.{Float, nan, inf, fin, down, binary64, round, mul, div, in_float, of_int, of_bits}
use lib.Ieee.Scale.{round_same}
use lib.Ieee.Exact.{HasValue}
use lib.Ieee.Fits.{down_pos}
use borrow.Author.Tests.{le-leb, lt-leb}
use Rattle.ground.specs.Pick.{pick}
use Rattle.ground.specs.Units.{units_of}
use Rattle.ground.proofs.Rounded.{mul_is}
use Rattle.ground.proofs.Units.{exact, div_at}
use Rattle.clocks.specs.declared.sample_counter.Ticked.{Ticked}
use Rattle.clocks.specs.Counter.{tick_by, Kept}
use Rattle.clocks.specs.Calls.{K}
use Rattle.clocks.specs.Distance.{units_in, away_by, away_of}
use Rattle.clocks.proofs.Working.{left, Room, tick_units}
use Rattle.clocks.proofs.Conserved.{every_units, room}

-- from k units the next frame is d working clocks of p units each away: those before it stay below M
pub record Due (p M k d : ℕ) : Type 0 where
  pub before : ℕ
  pub is : d ≡ before + 1
  pub short : k + before * p < M
  pub enough : M ≤ k + before * p + p

-- ---- at any N of M units of 2 ^ -u
module _ (u M : ℕ) (r : Room u M) where
  -- a working clock that makes no frame, and one that makes it
  pub tick_short : (k : ℕ) → k + 2 ^ u < M
      → tick_by (units_of binary64 u M) (units_of binary64 u k) ≡ record { made = false; counter = units_of binary64 u (k + 2 ^ u) }
  tick_short k h = tick_units u M k r (smaller k (2 ^ u) h) ∙ ap (λ (b : Bool). left u M b (k + 2 ^ u)) (lt-leb M (k + 2 ^ u) h)
    where
      smaller : (k p : ℕ) → k + p < M → k < M
      smaller k p h = omega arith

  pub tick_frame : (k : ℕ) → k < M → M ≤ k + 2 ^ u
      → tick_by (units_of binary64 u M) (units_of binary64 u k) ≡ record { made = true; counter = units_of binary64 u (k + 2 ^ u - M) }
  tick_frame k h l = tick_units u M k r h ∙ ap (λ (b : Bool). left u M b (k + 2 ^ u)) (le-leb M (k + 2 ^ u) l)

  -- the distance by the outcome of the next working clock
  abbrev from : ℕ → Ticked → ℕ
  from fuel t = pick t.made 1 (away_by (units_of binary64 u M) fuel t.counter + 1)

  -- as many clocks as come to M are enough to find the frame
  pub due : (fuel k : ℕ) → k < M → M ≤ k + fuel * 2 ^ u → Due (2 ^ u) M k (away_by (units_of binary64 u M) fuel (units_of binary64 u k))
  unfolding away_by pick
  due zero k h l = absurd (none k (2 ^ u) h l)
    where
      none : (k p : ℕ) → k < M → M ≤ k + zero * p → ⊥
      none k p h l = omega arith
  due (suc fuel) k h l = go (leb M (k + 2 ^ u)) (leb→le M (k + 2 ^ u)) (nleb→lt M (k + 2 ^ u)) (λ s. due fuel (k + 2 ^ u) s (fewer k fuel (2 ^ u) l))
    where
      fewer : (k f p : ℕ) → M ≤ k + suc f * p → M ≤ k + p + f * p
      fewer k f p l = let e : (f + 1) * p ≡ f * p + 1 * p = add-mul f 1 p in omega arith

      go : (b : Bool) → (T b → M ≤ k + 2 ^ u) → (T (not b) → k + 2 ^ u < M)
          → (k + 2 ^ u < M → Due (2 ^ u) M (k + 2 ^ u) (away_by (units_of binary64 u M) fuel (units_of binary64 u (k + 2 ^ u))))
          → Due (2 ^ u) M k (from fuel (tick_by (units_of binary64 u M) (units_of binary64 u k)))
      go true g s rest = rw (tick_frame k h (g tt)) (record { before = 0; is = refl; short = omega arith; enough = let l = g tt in omega arith })
      go false g s rest =
          let d = rest (s tt) in
          let e : (d.before + 1) * 2 ^ u ≡ d.before * 2 ^ u + 1 * 2 ^ u = add-mul d.before 1 (2 ^ u) in
          rw (tick_short k (s tt)) (record { before = d.before + 1; is = ap (λ (x : ℕ). x + 1) d.is; short = omega arith; enough = omega arith })

-- any clock before that one stops short of M
pub due_short : {p M k d : ℕ} → Due p M k d → (n : ℕ) → n < d → k + n * p < M
due_short {p} {M} {k} {d} due n h = let l : n * p ≤ due.before * p = mul-le-mul_right p (earlier due.is h) in let s = due.short in omega arith
  where
    earlier : {b : ℕ} → d ≡ b + 1 → n < d → n ≤ b
    earlier e h = omega arith

-- ---- at 44,100
-- the sample counter of k units of 2 ^ -48
abbrev pub units : ℕ → Float
units k = units_of binary64 48 k

-- 24 working clocks come to K
pub away_due : (k : ℕ) → k < K → Due (2 ^ 48) K k (away_of (units k))
away_due k h = rw every_units (due 48 K room 24 k h (all k))
  where
    all : (k : ℕ) → K ≤ k + 24 * 2 ^ 48
    all k = omega arith

-- the missing units by those of a clock, rounded up
abbrev pub dist : ℕ → ℕ
dist k = (K - k + (2 ^ 48 - 1)) / 2 ^ 48

-- which is the distance
pub away_is : (k : ℕ) → k < K → away_of (units k) ≡ dist k
away_is k h = let d = away_due k h in omega arith

pub away_some : (k : ℕ) → k < K → 0 < away_of (units k)
away_some k h = let d = away_due k h in omega arith

pub away_most : (k : ℕ) → k < K → away_of (units k) ≤ 24
away_most k h = let d = away_due k h in omega arith

pub enough : (k : ℕ) → k < K → K ≤ k + away_of (units k) * 2 ^ 48
enough k h = let d = away_due k h in omega arith

pub after_below : (k : ℕ) → k < K → k + away_of (units k) * 2 ^ 48 - K < K
after_below k h = let d = away_due k h in omega arith

pub short-of : (k n : ℕ) → k < K → n < away_of (units k) → k + n * 2 ^ 48 < K
short-of k n h l = due_short (away_due k h) n l

-- ---- from the counter to its units and back, with nothing rounded
in-value : (x : Float) (k : ℕ) → HasValue x false k (2 ^ 48) → units_in x ≡ k
unfolding units_in
in-value nan k v = absurd v
in-value (inf s) k v = absurd v
in-value (fin s m e) k v = ap (λ (x : ℕ). x / down e) v.1 ∙ mul-div_cancel k (down_pos e)

value : (k : ℕ) → k < K → HasValue (units k) false k (2 ^ 48)
value k h = exact binary64 48 k (lit≤ tt) (lt_of_lt_of_le h (lit≤ tt))

-- k units are k units
pub units_in_lem : (k : ℕ) → k < K → units_in (units k) ≡ k
units_in_lem k h = in-value (units k) k (value k h)

-- a kept counter is a whole number of units
module _ (c : Float) (h : Kept 48 K c) where
  kept_in : units_in c ≡ h.units
  kept_in = ap units_in h.is ∙ units_in_lem h.units h.below

  pub kept_is : c ≡ units (units_in c)
  kept_is = h.is ∙ ap units (sym kept_in)

  pub kept_below : units_in c < K
  kept_below = rw kept_in h.below

  pub kept_value : HasValue c false (units_in c) (2 ^ 48)
  kept_value = rw (h.is, units_in_lem h.units h.below) (value h.units h.below)

-- an f64 holds each number below K
pub K-held : (k : ℕ) → k < K → T (in_float binary64 (pos k))
unfolding in_float
K-held k h = le→leb k (2 ^ 53) (omega arith)

-- the f64 2 ^ 48
pub scale_is : of_bits binary64 0x42f0_0000_0000_0000 ≡ round binary64 false 281474976710656 1
unfolding of_bits round
scale_is = refl

whole_value : (n : ℕ) → n < 2 ^ 53 → HasValue (round binary64 false n 1) false n 1
unfolding units_of
whole_value n h = exact binary64 0 n (lit≤ tt) h

pub scaled_up : (k : ℕ) → k < K → mul binary64 (units k) (round binary64 false (2 ^ 48) 1) ≡ of_int binary64 (pos k)
unfolding of_int
scaled_up k h =
    let scale = whole_value (2 ^ 48) (lit< tt) in
    mul_is binary64 (units k) (round binary64 false (2 ^ 48) 1) false false k (2 ^ 48) (2 ^ 48) 1 (pow_pos 48) (lit< tt) (value k h) scale
    ∙ round_same binary64 false (k * 2 ^ 48) (2 ^ 48 * 1) k 1 (lit< tt) (lit< tt) (mul-one (k * 2 ^ 48) ∙ ap (λ (x : ℕ). k * x) (sym (mul-one (2 ^ 48))))

pub scaled_down : (k : ℕ) → k < K → div binary64 (of_int binary64 (pos k)) (round binary64 false (2 ^ 48) 1) ≡ units k
unfolding of_int units_of
scaled_down k h =
    let whole = whole_value k (lt_of_lt_of_le h (lit≤ tt)) in
    let scale = whole_value (2 ^ 48) (lit< tt) in
    div_at binary64 (round binary64 false k 1) (round binary64 false (2 ^ 48) 1) k (2 ^ 48) 1 1 (lit< tt) (lit< tt) whole scale
    ∙ ap₂ (round binary64 false) (mul-one k) (one-mul (2 ^ 48))
