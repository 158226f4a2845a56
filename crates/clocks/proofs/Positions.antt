-- What holds at -1 and at 0 to 7 holds at each position of the sequencer. Assumes nothing.
use Prim.Native.Nat.{ℕ, zero, suc, ◌≤◌}
use native.Mathlib.Omega.{arith}
use mathlib.Core.Path.{◌≡◌, refl, ap, ◌∙◌}
use mir.Syntax.{w8}
use mir.Val.{to_z, of_z}
use lib.IntN.{ℤ, pos, negsuc}
use Rattle.clocks.specs.Position.{PositionHeld, next_of}

pub eight : (P : ℕ → Type 0) → P 0 → P 1 → P 2 → P 3 → P 4 → P 5 → P 6 → P 7 → (n : ℕ) → n ≤ 7 → P n
eight P p0 p1 p2 p3 p4 p5 p6 p7 zero h = p0
eight P p0 p1 p2 p3 p4 p5 p6 p7 (suc zero) h = p1
eight P p0 p1 p2 p3 p4 p5 p6 p7 (suc (suc zero)) h = p2
eight P p0 p1 p2 p3 p4 p5 p6 p7 (suc (suc (suc zero))) h = p3
eight P p0 p1 p2 p3 p4 p5 p6 p7 (suc (suc (suc (suc zero)))) h = p4
eight P p0 p1 p2 p3 p4 p5 p6 p7 (suc (suc (suc (suc (suc zero))))) h = p5
eight P p0 p1 p2 p3 p4 p5 p6 p7 (suc (suc (suc (suc (suc (suc zero)))))) h = p6
eight P p0 p1 p2 p3 p4 p5 p6 p7 (suc (suc (suc (suc (suc (suc (suc zero))))))) h = p7
eight P p0 p1 p2 p3 p4 p5 p6 p7 (suc (suc (suc (suc (suc (suc (suc (suc n)))))))) h = absurd (omega arith)

pub nine : (P : ℤ → Type 0) → P (negsuc 0) → P (pos 0) → P (pos 1) → P (pos 2) → P (pos 3) → P (pos 4) → P (pos 5) → P (pos 6) → P (pos 7)
    → (z : ℤ) → PositionHeld z → P z
nine P m p0 p1 p2 p3 p4 p5 p6 p7 (pos n) h = eight (λ (k : ℕ). P (pos k)) p0 p1 p2 p3 p4 p5 p6 p7 n h
nine P m p0 p1 p2 p3 p4 p5 p6 p7 (negsuc zero) h = m
nine P m p0 p1 p2 p3 p4 p5 p6 p7 (negsuc (suc n)) h = absurd (omega arith)

-- a position read from the record is the position
pub read_back : (z : ℤ) → PositionHeld z → to_z w8 (of_z w8 z) ≡ z
read_back = nine (λ (z : ℤ). to_z w8 (of_z w8 z) ≡ z) refl refl refl refl refl refl refl refl refl

pub next_read : (z : ℤ) (n : ℕ) → PositionHeld z → n ≡ next_of (to_z w8 (of_z w8 z)) → n ≡ next_of z
next_read z n h e = e ∙ ap next_of (read_back z h)
