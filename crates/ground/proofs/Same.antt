-- Two floats of a format that have the same value are the same: `to_bits` sees only the value, and a float that fits is read back from its bits.
-- So whatever fits and has the value of k units IS k units. Assumes nothing.
use mathlib.Core.Path.{◌≡◌, sym, ap, ◌∙◌}
use mathlib.Core.Bool.{Bool, false, cond}
use Prim.Native.Nat.{ℕ, ◌+◌, ◌-◌, ◌*◌, ◌/◌, ◌^◌, ◌≤◌, ◌<◌}
use native.Mathlib.Nat.{mul_right_comm, eq_of_mul-eq-mul_right}
use lib.Dec.{T}
use lib.Pow.{pow_pos}
use lib.IntN.{ℤ}
use lib.Ieee.{Float, nan, inf, fin, Format, prec, low, up, down, size, hid, top, fits, to_bits, of_bits}
use lib.Ieee.Fits.{down_pos, round-fits}
use lib.Ieee.Exact.{HasValue}
use lib.Ieee.Nearest.{div_same}
use lib.Ieee.Bits.{of_bits-to_bits}
use Rattle.ground.specs.Units.{units_of}
use Rattle.ground.proofs.Units.{exact}

bits_same : (f : Format) (s : Bool) (m : ℕ) (e : ℤ) (n : ℕ) (d : ℤ) → m * up e * down d ≡ n * up d * down e → to_bits f (fin s m e) ≡ to_bits f (fin s n d)
unfolding to_bits
bits_same f s m e n d h =
    ap (λ (x : ℕ). cond s (top f) 0 + (size x - prec f) * hid f + x / 2 ^ (size x - prec f))
    (div_same (m * up e * 2 ^ low f) (down e) (n * up d * 2 ^ low f) (down d) (down_pos e) (down_pos d)
    (mul_right_comm (m * up e) (2 ^ low f) (down d) ∙ ap (λ (x : ℕ). x * 2 ^ low f) h ∙ mul_right_comm (n * up d) (down e) (2 ^ low f)))

cross : (x y a c p q : ℕ) → 0 < c → x * c ≡ a * p → y * c ≡ a * q → x * q ≡ y * p
cross x y a c p q C h k =
    eq_of_mul-eq-mul_right c C (x * q) (y * p)
    (mul_right_comm x q c ∙ ap (λ (z : ℕ). z * q) h ∙ mul_right_comm a p q ∙ ap (λ (z : ℕ). z * p) (sym k) ∙ mul_right_comm y c p)

pub same_value : (f : Format) (x y : Float) (s : Bool) (a c : ℕ) → 0 < c → T (fits f x) → T (fits f y) → HasValue x s a c → HasValue y s a c → x ≡ y
same_value f nan y s a c C p q v w = absurd v
same_value f (inf t) y s a c C p q v w = absurd v
same_value f (fin t m e) nan s a c C p q v w = absurd w
same_value f (fin t m e) (inf r) s a c C p q v w = absurd w
same_value f (fin t m e) (fin r n d) s a c C p q v w =
    let sizes = bits_same f t m e n d (cross (m * up e) (n * up d) a c (down e) (down d) C v.1 w.1) in
    let signs = ap (λ (z : Bool). to_bits f (fin z n d)) (v.0 ∙ sym w.0) in
    sym (of_bits-to_bits f (fin t m e) p)
    ∙ ap (of_bits f) (sizes ∙ signs)
    ∙ of_bits-to_bits f (fin r n d) q

pub units_fit : (f : Format) (u k : ℕ) → T (fits f (units_of f u k))
unfolding units_of
units_fit f u k = round-fits f false k (2 ^ u)

pub units_unique : (f : Format) (u k : ℕ) (x : Float) → u ≤ low f → k < 2 ^ prec f → T (fits f x) → HasValue x false k (2 ^ u) → x ≡ units_of f u k
units_unique f u k x U h p v = same_value f x (units_of f u k) false k (2 ^ u) (pow_pos u) p (units_fit f u k) v (exact f u k U h)
