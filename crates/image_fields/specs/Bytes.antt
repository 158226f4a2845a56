-- Numbers as bytes, "big-endian in their own width", and back; "each yes/no as a byte 0 or 1". Quotes are request 2026-01's. Assumes nothing.
use Rattle.std.specs.Prelude.{ℕ, zero, suc, ◌+◌, ◌*◌, ◌/◌, ◌%◌, Bool, true, false, ◌&&◌, List, [], ◌∷◌, ◌++◌, get_or, eqb, leb}
use Rattle.std.proofs.lemmas.List.Edits.{sets}

-- "each yes/no as a byte 0 or 1": the byte, whether one is yes, and whether it is either
abbrev pub bit_of : Bool → ℕ
bit_of true = 1
bit_of false = 0

abbrev pub is_one : ℕ → Bool
is_one n = eqb n 1

abbrev pub is_flag : ℕ → Bool
is_flag n = leb n 1

-- "big-endian": two, four and eight bytes
abbrev pub be2 : ℕ → List ℕ
be2 x = x / 256 % 256 ∷ x % 256 ∷ []

abbrev pub be4 : ℕ → List ℕ
be4 x = be2 (x / 0x1_0000) ++ be2 (x % 0x1_0000)

abbrev pub be8 : ℕ → List ℕ
be8 x = be4 (x / 0x1_0000_0000) ++ be4 (x % 0x1_0000_0000)

-- the number in the two, four, eight bytes at a place
abbrev pub two_at : List ℕ → ℕ → ℕ
two_at s at = get_or s at 0 * 256 + get_or s (at + 1) 0

abbrev pub four_at : List ℕ → ℕ → ℕ
four_at s at = two_at s at * 0x1_0000 + two_at s (at + 2)

abbrev pub eight_at : List ℕ → ℕ → ℕ
eight_at s at = four_at s at * 0x1_0000_0000 + four_at s (at + 4)

-- all of some tests hold, taken from the left
abbrev pub all_from : Bool → List Bool → Bool
all_from a [] = a
all_from a (b ∷ bs) = all_from (a && b) bs

abbrev pub all_of : List Bool → Bool
all_of [] = true
all_of (b ∷ bs) = all_from b bs

-- lent bytes with a row of bytes put from a place on
unfoldable pub stored : List ℕ → ℕ → List ℕ → List ℕ
stored l at xs = sets l at xs

-- the n bytes from k places after a place on
abbrev pub row : List ℕ → ℕ → ℕ → ℕ → List ℕ
row s at k zero = []
row s at k (suc n) = get_or s (at + k) 0 ∷ row s at (suc k) n
