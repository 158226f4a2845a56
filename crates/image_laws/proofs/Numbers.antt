-- Yes and no, and numbers of two, four and eight bytes: each is what its bytes say, and the bytes are those of what they say. Assumes nothing.
use Prim.Native.Nat.{ℕ, zero, suc, ◌+◌, ◌*◌, ◌/◌, ◌%◌, ◌≤◌, ◌<◌}
use mathlib.Core.Path.{◌≡◌, refl, sym, ◌∙◌, ap, ap₂}
use mathlib.Core.Bool.{Bool, true, false, ◌&&◌}
use mathlib.Core.List.{List, [], ◌∷◌, ◌++◌}
use native.Mathlib.Nat.{add-zero, zero-add, add-suc, add_assoc}
use native.Mathlib.Omega.{arith}
use lib.ListN.{length, get_or}
use lib.Dec.{T, leb→le}
use lib.Ieee.Fits.{and_l, and_r, and_i}
use Rattle.image_laws.specs.Images.{Bytewise}
use Rattle.image_fields.specs.Bytes.{row, bit_of, is_one, is_flag, be2, be4, be8, two_at, four_at, eight_at, all_from, all_of}

-- ---- yes and no: a byte gives back what it was made of, and a byte 0 or 1 is that of what it says
pub bit_back : (b : Bool) → is_one (bit_of b) ≡ b
bit_back true = refl
bit_back false = refl

pub bit_most : (b : Bool) → bit_of b ≤ 1
bit_most true = omega arith
bit_most false = omega arith

pub bit_same : (n : ℕ) → T (is_flag n) → bit_of (is_one n) ≡ n
bit_same n t = below_two n (leb→le n 1 t)
  where
    below_two : (n : ℕ) → n ≤ 1 → bit_of (is_one n) ≡ n
    below_two zero h = refl
    below_two (suc zero) h = refl
    below_two (suc (suc n)) h = absurd (omega arith)

-- ---- all of some tests hold exactly if each of them does
abbrev pub Each : List Bool → Type 0
Each [] = Unit
Each (b ∷ bs) = T b × Each bs

each_from : (a : Bool) (bs : List Bool) → T (all_from a bs) → T a × Each bs
each_from a [] t = (t, tt)
each_from a (b ∷ bs) t =
    let h = each_from (a && b) bs t in
    (and_l a b h.0, (and_r a b h.0, h.1))

pub each : (bs : List Bool) → T (all_of bs) → Each bs
each [] t = tt
each (b ∷ bs) t = each_from b bs t

-- the test at a place of the list
nth_holds : (bs : List Bool) → Each bs → (k : ℕ) → T (get_or bs k true)
nth_holds [] h k = tt
nth_holds (b ∷ bs) h zero = h.0
nth_holds (b ∷ bs) h (suc k) = nth_holds bs h.1 k

pub passed : (bs : List Bool) → T (all_of bs) → (k : ℕ) → T (get_or bs k true)
passed bs t = nth_holds bs (each bs t)

every_from : (a : Bool) (bs : List Bool) → T a → Each bs → T (all_from a bs)
every_from a [] t h = t
every_from a (b ∷ bs) t h = every_from (a && b) bs (and_i a b t h.0) h.1

pub every : (bs : List Bool) → Each bs → T (all_of bs)
every [] h = tt
every (b ∷ bs) h = every_from b bs h.0 h.1

-- ---- rows: a row from j places on is that row of the whole
pub row_shift : (s : List ℕ) (at j k n : ℕ) → row s (at + j) k n ≡ row s at (j + k) n
row_shift s at j k zero = refl
row_shift s at j k (suc n) =
    ap₂ (λ (i : ℕ) (r : List ℕ). get_or s i 0 ∷ r) (add_assoc at j k) (row_shift s at j (suc k) n ∙ ap (λ (i : ℕ). row s at i n) (add-suc j k))

row_cons : (x : ℕ) (s : List ℕ) (k n : ℕ) → row (x ∷ s) 0 (suc k) n ≡ row s 0 k n
row_cons x s k zero = refl
row_cons x s k (suc n) =
    let byte = ap (λ (i : ℕ). get_or (x ∷ s) i 0) (zero-add (suc k)) ∙ ap (λ (i : ℕ). get_or s i 0) (sym (zero-add k)) in
    ap₂ (λ (i : ℕ) (r : List ℕ). i ∷ r) byte (row_cons x s (suc k) n)

-- all of a list's bytes are the list
pub row_all : (s : List ℕ) → row s 0 0 (length s) ≡ s
row_all [] = refl
row_all (x ∷ s) = ap (λ (r : List ℕ). x ∷ r) (row_cons x s 0 (length s) ∙ row_all s)

-- the byte at a place, and k places after it, of a row that is known
pub first_of : (s : List ℕ) (at n : ℕ) (xs : List ℕ) → row s at 0 (suc n) ≡ xs → get_or s at 0 ≡ get_or xs 0 0
first_of s at n xs h = sym (ap (λ (i : ℕ). get_or s i 0) (add-zero at)) ∙ ap (λ (r : List ℕ). get_or r 0 0) h

pub nth : (k : ℕ) {r xs : List ℕ} → r ≡ xs → get_or r k 0 ≡ get_or xs k 0
nth k h = ap (λ (r : List ℕ). get_or r k 0) h

-- a part of a row that is known, as a row of its own
pub part : (s : List ℕ) (at k n m : ℕ) (xs : List ℕ) → row (row s at 0 m) 0 k n ≡ row s at k n → row s at 0 m ≡ xs
    → row s (at + k) 0 n ≡ row xs 0 k n
part s at k n m xs e h = row_shift s at k 0 n ∙ ap (λ (i : ℕ). row s at i n) (add-zero k) ∙ sym e ∙ ap (λ (r : List ℕ). row r 0 k n) h

-- rows side by side
pub glue : {xs ys zs ws : List ℕ} → xs ≡ zs → ys ≡ ws → xs ++ ys ≡ zs ++ ws
glue e f = ap₂ (λ (x y : List ℕ). x ++ y) e f

pub first_row : (s : List ℕ) (at : ℕ) → (get_or s at 0 ∷ []) ≡ row s at 0 1
first_row s at = ap (λ (i : ℕ). get_or s i 0 ∷ []) (sym (add-zero at))

-- ---- a number in two bytes: read back, written again, and its size
pub two_back : (s : List ℕ) (at x : ℕ) → row s at 0 2 ≡ be2 x → x < 65536 → two_at s at ≡ x
two_back s at x h l =
    let e : get_or s (at + 0) 0 ≡ x / 256 % 256 = ap (λ (r : List ℕ). get_or r 0 0) h in
    let f : get_or s (at + 1) 0 ≡ x % 256 = ap (λ (r : List ℕ). get_or r 1 0) h in
    let g : get_or s at 0 ≡ x / 256 % 256 = sym (ap (λ (i : ℕ). get_or s i 0) (add-zero at)) ∙ e in
    rw (g, f) (parts x l)
  where
    parts : (x : ℕ) → x < 65536 → x / 256 % 256 * 256 + x % 256 ≡ x
    parts x l = omega arith

-- a list of bytes: each is below 256
-- the high byte of the number at a place, and the low byte of the one k places on
pub two_high : (s : List ℕ) (at : ℕ) → Bytewise s → two_at s at / 256 % 256 ≡ get_or s at 0
two_high s at b = high (get_or s at 0) (get_or s (at + 1) 0) (b at) (b (at + 1))
  where
    high : (x y : ℕ) → x < 256 → y < 256 → (x * 256 + y) / 256 % 256 ≡ x
    high x y a b = omega arith

pub two_low : (s : List ℕ) (at k : ℕ) → Bytewise s → two_at s (at + k) % 256 ≡ get_or s (at + suc k) 0
two_low s at k b = low (get_or s (at + k) 0) (get_or s (at + k + 1) 0) (b (at + k + 1)) ∙ ap (λ (i : ℕ). get_or s i 0) (sum at k)
  where
    low : (x y : ℕ) → y < 256 → (x * 256 + y) % 256 ≡ y
    low x y b = omega arith

    sum : (i k : ℕ) → i + k + 1 ≡ i + suc k
    sum i k = omega arith

pub two_same : (s : List ℕ) (at : ℕ) → Bytewise s → be2 (two_at s at) ≡ row s at 0 2
two_same s at b =
    ap₂ (λ (x y : ℕ). x ∷ y ∷ []) (two_high s at b ∙ ap (λ (i : ℕ). get_or s i 0) (sym (add-zero at)))
    (ap (λ (i : ℕ). two_at s i % 256) (sym (add-zero at)) ∙ two_low s at 0 b)

pub two_lt : (s : List ℕ) (at : ℕ) → Bytewise s → two_at s at < 65536
two_lt s at b = lt (get_or s at 0) (get_or s (at + 1) 0) (b at) (b (at + 1))
  where
    lt : (x y : ℕ) → x < 256 → y < 256 → x * 256 + y < 65536
    lt x y a b = omega arith

-- ---- in four
pub four_back : (s : List ℕ) (at x : ℕ) → row s at 0 4 ≡ be4 x → x < 0x1_0000_0000 → four_at s at ≡ x
four_back s at x h l =
    let e : row s at 0 2 ≡ be2 (x / 0x1_0000) = ap (λ (r : List ℕ). get_or r 0 0 ∷ get_or r 1 0 ∷ []) h in
    let f : row s at 2 2 ≡ be2 (x % 0x1_0000) = ap (λ (r : List ℕ). get_or r 2 0 ∷ get_or r 3 0 ∷ []) h in
    rw (two_back s at (x / 0x1_0000) e (omega arith), two_back s (at + 2) (x % 0x1_0000) (row_shift s at 2 0 2 ∙ f) (omega arith)) (parts x)
  where
    parts : (x : ℕ) → x / 0x1_0000 * 0x1_0000 + x % 0x1_0000 ≡ x
    parts x = omega arith

pub four_same : (s : List ℕ) (at : ℕ) → Bytewise s → be4 (four_at s at) ≡ row s at 0 4
four_same s at b =
    let x = two_at s at in
    let y = two_at s (at + 2) in
    let l : y < 0x1_0000 = two_lt s (at + 2) b in
    glue (ap be2 (high x y l)) (ap be2 (low x y l)) ∙ glue (two_same s at b) (two_same s (at + 2) b ∙ row_shift s at 2 0 2)
  where
    high : (x y : ℕ) → y < 65536 → (x * 0x1_0000 + y) / 0x1_0000 ≡ x
    high x y b = omega arith

    low : (x y : ℕ) → y < 65536 → (x * 0x1_0000 + y) % 0x1_0000 ≡ y
    low x y b = omega arith

pub four_lt : (s : List ℕ) (at : ℕ) → Bytewise s → four_at s at < 0x1_0000_0000
four_lt s at b = lt (two_at s at) (two_at s (at + 2)) (two_lt s at b) (two_lt s (at + 2) b)
  where
    lt : (x y : ℕ) → x < 65536 → y < 65536 → x * 0x1_0000 + y < 0x1_0000_0000
    lt x y a b = omega arith

-- ---- in eight
pub eight_back : (s : List ℕ) (at x : ℕ) → row s at 0 8 ≡ be8 x → x < 0x1_0000_0000_0000_0000 → eight_at s at ≡ x
eight_back s at x h l =
    let e : row s at 0 4 ≡ be4 (x / 0x1_0000_0000) = ap (λ (r : List ℕ). row r 0 0 4) h in
    let f : row s at 4 4 ≡ be4 (x % 0x1_0000_0000) = ap (λ (r : List ℕ). row r 0 4 4) h in
    rw (four_back s at (x / 0x1_0000_0000) e (omega arith), four_back s (at + 4) (x % 0x1_0000_0000) (row_shift s at 4 0 4 ∙ f) (omega arith)) (parts x)
  where
    parts : (x : ℕ) → x / 0x1_0000_0000 * 0x1_0000_0000 + x % 0x1_0000_0000 ≡ x
    parts x = omega arith

pub eight_same : (s : List ℕ) (at : ℕ) → Bytewise s → be8 (eight_at s at) ≡ row s at 0 8
eight_same s at b =
    let x = four_at s at in
    let y = four_at s (at + 4) in
    let l : y < 0x1_0000_0000 = four_lt s (at + 4) b in
    glue (ap be4 (high x y l)) (ap be4 (low x y l)) ∙ glue (four_same s at b) (four_same s (at + 4) b ∙ row_shift s at 4 0 4)
  where
    high : (x y : ℕ) → y < 0x1_0000_0000 → (x * 0x1_0000_0000 + y) / 0x1_0000_0000 ≡ x
    high x y b = omega arith

    low : (x y : ℕ) → y < 0x1_0000_0000 → (x * 0x1_0000_0000 + y) % 0x1_0000_0000 ≡ y
    low x y b = omega arith

pub eight_lt : (s : List ℕ) (at : ℕ) → Bytewise s → eight_at s at < 0x1_0000_0000_0000_0000
eight_lt s at b = lt (four_at s at) (four_at s (at + 4)) (four_lt s at b) (four_lt s (at + 4) b)
  where
    lt : (x y : ℕ) → x < 0x1_0000_0000 → y < 0x1_0000_0000 → x * 0x1_0000_0000 + y < 0x1_0000_0000_0000_0000
    lt x y a b = omega arith
