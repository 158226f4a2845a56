-- What stands at a place, by the bytes from there on. Assumes nothing.
use Prim.Native.Nat.{ℕ, ◌+◌, ◌-◌, ◌*◌, ◌≤◌, ◌<◌}
use mathlib.Core.Path.{◌≡◌, sym, ap, ap₂, ◌∙◌}
use mathlib.Core.List.{List}
use mathlib.Core.Logic.{◌⊎◌, inl, inr}
use native.Mathlib.Nat.{add-zero}
use native.Mathlib.Omega.{arith}
use borrow.Author.Tests.{lt-ltb, le-ltb, le-leb, lt-leb}
use lib.ListN.{length, get_or, drop}
use Rattle.std.specs.List.{slice_range}
use Rattle.std.proofs.lemmas.List.{get_or-drop, get_or-take}
use Rattle.std.specs.Prelude.{Ok, Some, None}
use Rattle.ground.specs.Pick.{pick}
use Rattle.log_records.specs.Judge.{word}
use Rattle.log_records.specs.Records.{cut_off, cut_at}

module _ (s : List ℕ) (at : ℕ) where
  cut_end : length s ≤ at → Ok None ≡ cut_at s at
  unfolding cut_at pick
  cut_end h = rw (le-leb (length s) at h)

  pub cut_past : (length s < at) ⊎ (length s < length s) → Ok None ≡ cut_at s at
  cut_past (inl h) = cut_end (omega arith)
  cut_past (inr h) = cut_end (omega arith)

  module _ {rest : List ℕ} (is : rest ≡ slice_range s at (length s)) (long : length rest + at ≡ length s) where
    byte : (i : ℕ) → i < length rest → get_or rest i 0 ≡ get_or s (at + i) 0
    byte i h =
        ap (λ (l : List ℕ). get_or l i 0) is ∙ get_or-take (length s - at) (drop at s) i 0 (omega arith) ∙ get_or-drop at s i 0

    said : 2 ≤ length rest → get_or rest 0 0 * 256 + get_or rest 1 0 ≡ word s at
    said h =
        let first = byte 0 (omega arith) ∙ ap (λ (n : ℕ). get_or s n 0) (add-zero at) in
        ap₂ (λ (x y : ℕ). x * 256 + y) first (byte 1 (omega arith))

    pub cut_none : length rest < 1 → Ok None ≡ cut_at s at
    cut_none h = cut_end (omega arith)

    pub cut_one : 1 ≤ length rest → length rest < 2 → cut_off ≡ cut_at s at
    unfolding cut_at pick
    cut_one h k = rw (lt-leb (length s) at (omega arith), lt-ltb (length s - at) 2 (omega arith))

    pub cut_over : (n : ℕ) → 2 ≤ length rest → n ≡ get_or rest 0 0 * 256 + get_or rest 1 0 → length rest - 2 < n → cut_off ≡ cut_at s at
    unfolding cut_at pick
    cut_over n h e k =
        let w : word s at ≡ n = sym (e ∙ said h) in
        rw (lt-leb (length s) at (omega arith), le-ltb (length s - at) 2 (omega arith), w, lt-ltb (length s - at - 2) n (omega arith))

    pub cut_some : (n : ℕ) → 2 ≤ length rest → n ≡ get_or rest 0 0 * 256 + get_or rest 1 0 → n ≤ length rest - 2 → Ok (Some n) ≡ cut_at s at
    unfolding cut_at pick
    cut_some n h e k =
        let w : word s at ≡ n = sym (e ∙ said h) in
        rw (lt-leb (length s) at (omega arith), le-ltb (length s - at) 2 (omega arith), w, le-ltb (length s - at - 2) n (omega arith))
