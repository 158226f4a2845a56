-- Half-clocks counted some at a time make the frames of them all: a rest and what comes after it divide as their sum does. Assumes nothing.
use mathlib.Core.Path.{◌≡◌, sym, ap, ◌∙◌}
use mathlib.Core.Bool.{true}
use Prim.Native.Nat.{ℕ, ◌+◌, ◌-◌, ◌*◌, ◌/◌, ◌%◌, ◌^◌, ◌≤◌, ◌<◌}
use native.Mathlib.Nat.{add-zero, zero-add, add_assoc, add-mul, zero-mul, div-add-mod', mod-lt, mod-eq_of_lt, div-eq_of_lt, mul-le-mul_left, div-lt_iff_lt-mul}
use native.Mathlib.Omega.{arith}
use lib.Dec.{lit<, lit≤}
use Rattle.clocks.specs.declared.meter.Meter.{Meter}
use Rattle.clocks.specs.declared.meter.Metered.{Metered}
use Rattle.clocks.specs.Calls.{K}
use Rattle.clocks.specs.Metered.{Held, fresh, metered, frames_from, frames_of}
use Rattle.clocks.proofs.Conserved.{div_mod_is}

-- a division in two pieces
in_pieces : (t x : ℕ) → ((t + x) / K ≡ t / K + (t % K + x) / K) × ((t + x) % K ≡ (t % K + x) % K)
in_pieces t x =
    let y = t % K + x in
    let a : t / K * K + t % K ≡ t = div-add-mod' t K in
    let b : y / K * K + y % K ≡ y = div-add-mod' y K in
    let c : (t / K + y / K) * K ≡ t / K * K + y / K * K = add-mul (t / K) (y / K) K in
    div_mod_is (t + x) K (t / K + y / K) (y % K) (mod-lt y (lit< tt)) (sums (t / K * K) (t % K) t (y / K * K) (y % K) x ((t / K + y / K) * K) a b c)
  where
    sums : (p q t r s x z : ℕ) → p + q ≡ t → r + s ≡ q + x → z ≡ p + r → t + x ≡ z + s
    sums p q t r s x z a b c = omega arith

-- from a meter on: no more frames than half-clocks, since rest and clock are each below a frame
pub frames_le : (m : Meter) (h : ℕ) → Held K m → frames_from 48 K m h ≤ h
unfolding frames_from
frames_le m h held =
    let w = (m.half + h) / 2 in
    let a : w * 2 ^ 48 ≤ w * K = mul-le-mul_left w (lit≤ tt) in
    let b : (w + 1) * K ≡ w * K + 1 * K = add-mul w 1 K in
    let r = held.rest in
    let c : m.rest + w * 2 ^ 48 < (w + 1) * K = within m.rest (w * 2 ^ 48) (w * K) ((w + 1) * K) a b r in
    halved ((m.rest + w * 2 ^ 48) / K) m.half h held.half ((div-lt_iff_lt-mul (lit< tt)).1 c)
  where
    within : (r x y z : ℕ) → x ≤ y → z ≡ y + 1 * K → r < K → r + x < z
    within r x y z a b h = omega arith

    halved : (x g n : ℕ) → g < 2 → x < (g + n) / 2 + 1 → x ≤ n
    halved x g n h k = omega arith

-- the fresh unit's meter
pub frames_fresh : (h : ℕ) → frames_of h ≡ frames_from 48 K fresh h
unfolding frames_of frames_from
frames_fresh h = rw (zero-add h, zero-add (h / 2 * 2 ^ 48))

-- some more half-clocks after d of them, from a meter on
module _ (m : Meter) where
  -- half-clocks and units in all
  abbrev halves_at : ℕ → ℕ
  halves_at d = m.half + d

  abbrev units_at : ℕ → ℕ
  units_at d = m.rest + halves_at d / 2 * 2 ^ 48

  module _ (d n : ℕ) where
    pairs : units_at (d + n) ≡ units_at d + (halves_at d % 2 + n) / 2 * 2 ^ 48
    pairs =
        let e : (m.half + (d + n)) / 2 ≡ (m.half + d) / 2 + ((m.half + d) % 2 + n) / 2 = omega arith in
        ap (λ (x : ℕ). m.rest + x * 2 ^ 48) e
        ∙ ap (λ (x : ℕ). m.rest + x) (add-mul (halves_at d / 2) ((halves_at d % 2 + n) / 2) (2 ^ 48))
        ∙ sym (add_assoc m.rest (halves_at d / 2 * 2 ^ 48) ((halves_at d % 2 + n) / 2 * 2 ^ 48))

    frames_more : frames_from 48 K m (d + n) ≡ frames_from 48 K m d + (units_at d % K + (halves_at d % 2 + n) / 2 * 2 ^ 48) / K
    unfolding frames_from
    frames_more = ap (λ (x : ℕ). x / K) pairs ∙ (in_pieces (units_at d) ((halves_at d % 2 + n) / 2 * 2 ^ 48)).0

    rest_more : units_at (d + n) % K ≡ (units_at d % K + (halves_at d % 2 + n) / 2 * 2 ^ 48) % K
    rest_more = ap (λ (x : ℕ). x % K) pairs ∙ (in_pieces (units_at d) ((halves_at d % 2 + n) / 2 * 2 ^ 48)).1

-- the loop's invariant: meter and frames are those of the half-clocks passed from the first meter on
pub record Going (start : Meter) (passed : ℕ) (m : Meter) (f : ℕ) : Type 0 where
  pub first : Held K start
  pub half : m.half ≡ halves_at start passed % 2
  pub rest : m.rest ≡ units_at start passed % K
  pub frames : f ≡ frames_from 48 K start passed

pub begun : (start : Meter) → Held K start → Going start 0 start 0
unfolding frames_from
begun start h =
    let w : (start.half + 0) / 2 ≡ 0 = few start.half h.half in
    let e : start.rest + 0 * 2 ^ 48 ≡ start.rest = ap (λ (x : ℕ). start.rest + x) (zero-mul (2 ^ 48)) ∙ add-zero start.rest in
    record {
      first = h;
      half = same start.half h.half;
      rest = rw (w, e, mod-eq_of_lt h.rest);
      frames = rw (w, e, div-eq_of_lt h.rest);
    }
  where
    few : (g : ℕ) → g < 2 → (g + 0) / 2 ≡ 0
    few g h = omega arith

    same : (g : ℕ) → g < 2 → g ≡ (g + 0) % 2
    same g h = omega arith

module _ {start : Meter} {passed : ℕ} {m : Meter} {f : ℕ} (g : Going start passed m f) where
  pub held : Held K m
  held = record { half = rw g.half (mod-lt _ (lit< tt)); rest = rw g.rest (mod-lt _ (lit< tt)) }

  pub turn : (n : ℕ) → Going start (passed + n) (metered 48 K m true n).meter (f + (metered 48 K m true n).frames)
  turn n =
      record {
        first = g.first;
        half = rw g.half (parity start.half passed n);
        rest = rw (g.half, g.rest, rest_more start passed n);
        frames = rw (g.half, g.rest, g.frames, frames_more start passed n);
      }
    where
      parity : (s d n : ℕ) → ((s + d) % 2 + n) % 2 ≡ (s + (d + n)) % 2
      parity s d n = omega arith

  -- the frames so far are no more than the half-clocks
  pub few : (n : ℕ) (r : Metered) → r ≡ metered 48 K m true n → f + r.frames ≤ passed + n
  few n r e = rw e (let l = (turn n).frames in let b = frames_le start (passed + n) g.first in omega arith)
