-- A word stored low byte first, after its bytes were turned round, is the word stored high byte first. Assumes nothing.
use Prim.Native.Nat.{ℕ, ◌+◌, ◌*◌, ◌/◌, ◌%◌, ◌<◌}
use mathlib.Core.Path.{◌≡◌, ap, ◌∙◌}
use mathlib.Core.List.{List, [], ◌∷◌}
use native.Mathlib.Nat.{add-mul-div_right, div-eq_of_lt, zero-add}
use native.Mathlib.Omega.{arith}
use native.Mathlib.Numerals.{add-one, add-two, add-three}
use lib.ListN.{set}
use lib.Seq.{sets}
use Rattle.log_items.specs.Items.{be32, swapped_of}

-- the four bytes of a number, the low one first
abbrev low_first : ℕ → List ℕ
low_first t = t % 256 ∷ t / 0x100 % 256 ∷ t / 0x1_0000 % 256 ∷ t / 0x100_0000 ∷ []

-- a byte below the rest
low_of : (a k t : ℕ) → a < 256 → t ≡ a + k * 256 → t % 256 ≡ a
low_of a k t A e = omega arith

-- what stands above the low bytes, m being 0x100 for one of them, 0x1_0000 for two, 0x100_0000 for three
above : (m a k t : ℕ) → a < m → t ≡ a + k * m → t / m ≡ k
above m a k t A e =
    let z : 0 < m = omega arith in
    ap (λ (x : ℕ). x / m) e ∙ add-mul-div_right a k z ∙ ap (λ (x : ℕ). x + k) (div-eq_of_lt A) ∙ zero-add k

-- they are those that it is made of
made_of : (a b c d t : ℕ) → a < 256 → b < 256 → c < 256 → d < 256 → t ≡ a + b * 0x100 + c * 0x1_0000 + d * 0x100_0000 → low_first t ≡ a ∷ b ∷ c ∷ d ∷ []
made_of a b c d t A B C D e =
    let first : t % 256 ≡ a = low_of a (b + c * 0x100 + d * 0x1_0000) t A (omega arith) in
    let second : t / 0x100 ≡ b + (c + d * 256) * 256 = above 0x100 a (b + (c + d * 256) * 256) t A (omega arith) in
    let third : t / 0x1_0000 ≡ c + d * 256 = above 0x1_0000 (a + b * 256) (c + d * 256) t (omega arith) (omega arith) in
    let fourth : t / 0x100_0000 ≡ d = above 0x100_0000 (a + b * 256 + c * 0x1_0000) d t (omega arith) (omega arith) in
    rw (first, low_of b (c + d * 256) (t / 0x100) B second, low_of c d (t / 0x1_0000) C third, fourth)

pub turned_bytes : (t word : ℕ) → word < 0x1_0000_0000 → t ≡ swapped_of word → low_first t ≡ be32 word
turned_bytes t word small e =
    let top : word / 0x100_0000 % 256 ≡ word / 0x100_0000 = omega arith in
    rw top (made_of (word / 0x100_0000) (word / 0x1_0000 % 256) (word / 0x100 % 256) (word % 256) t (omega arith) (omega arith) (omega arith) (omega arith) e)

-- four stores in a row
pub stored_word : (out : List ℕ) (at t word : ℕ) → word < 0x1_0000_0000 → t ≡ swapped_of word
    → set (set (set (set out at (t % 256)) (at + 1) (t / 0x100 % 256)) (at + 2) (t / 0x1_0000 % 256)) (at + 3) (t / 0x100_0000) ≡ sets out at (be32 word)
stored_word out at t word small e = simp (add-one, add-two, add-three) (ap (sets out at) (turned_bytes t word small e))
