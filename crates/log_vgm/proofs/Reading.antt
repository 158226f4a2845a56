-- The command at a place, by the bytes from the place on. Assumes nothing.
use Prim.Native.Nat.{ℕ, ◌+◌, ◌-◌, ◌≤◌, ◌<◌}
use mathlib.Core.Path.{◌≡◌, refl, sym, ap, ◌∙◌}
use mathlib.Core.Bool.{Bool, true, false}
use mathlib.Core.List.{List}
use mathlib.Core.Logic.{◌⊎◌, inl, inr}
use native.Mathlib.Nat.{add-zero}
use native.Mathlib.Omega.{arith}
use borrow.Author.Tests.{le-leb, lt-leb, eqb-true}
use lib.ListN.{length, get_or, drop}
use lib.Dec.{eqb}
use Rattle.std.specs.List.{slice_range}
use Rattle.std.proofs.lemmas.List.{get_or-drop, get_or-take}
use Rattle.ground.specs.Pick.{pick}
use Rattle.log_vgm.specs.Commands.{takes, bad, store_of, long_of, short_of, next_at}

module _ (s : List ℕ) (at : ℕ) where
  pub past : (length s < at) ⊎ (length s < length s) → bad ≡ next_at s at
  unfolding next_at pick
  past (inl h) = rw (le-leb (length s) at (omega arith))
  past (inr h) = rw (le-leb (length s) at (omega arith))

  -- the bytes from there on
  module _ {rest : List ℕ} (is : rest ≡ slice_range s at (length s)) (long : length rest + at ≡ length s) where
    byte : (i : ℕ) → i < length rest → get_or rest i 0 ≡ get_or s (at + i) 0
    byte i h =
        ap (λ (l : List ℕ). get_or l i 0) is ∙ get_or-take (length s - at) (drop at s) i 0 (omega arith) ∙ get_or-drop at s i 0

    first_byte : 1 ≤ length rest → get_or rest 0 0 ≡ get_or s at 0
    first_byte h = byte 0 (omega arith) ∙ ap (λ (n : ℕ). get_or s n 0) (add-zero at)

    pub none_left : length rest < 1 → bad ≡ next_at s at
    unfolding next_at pick
    none_left h = rw (le-leb (length s) at (omega arith))

    pub a_store : 3 ≤ length rest → get_or rest 0 0 ≡ 0xB3 → store_of (get_or rest 1 0) (get_or rest 2 0) ≡ next_at s at
    unfolding next_at pick
    a_store h e =
        rw (
          byte 1 (omega arith),
          byte 2 (omega arith),
          lt-leb (length s) at (omega arith),
          sym (first_byte (omega arith)) ∙ e,
          le-leb 3 (length s - at) (omega arith),
        )

    pub a_long : 3 ≤ length rest → get_or rest 0 0 ≡ 0x61 → takes (long_of (get_or rest 1 0) (get_or rest 2 0)) ≡ next_at s at
    unfolding next_at pick
    a_long h e =
        rw (
          byte 1 (omega arith),
          byte 2 (omega arith),
          lt-leb (length s) at (omega arith),
          sym (first_byte (omega arith)) ∙ e,
          le-leb 3 (length s - at) (omega arith),
        )

    -- no command of three bytes, or one that is cut short
    pub a_short : 1 ≤ length rest → (get_or rest 0 0 ≡ 0xB3 → length rest < 3) → (get_or rest 0 0 ≡ 0x61 → length rest < 3)
        → short_of (get_or rest 0 0) ≡ next_at s at
    unfolding next_at short_of pick
    a_short some store long_wait = go (eqb (get_or rest 0 0) 0xB3) (eqb (get_or rest 0 0) 0x61) refl refl
      where
        first : ℕ
        first = get_or rest 0 0

        go : (b d : Bool) → eqb first 0xB3 ≡ b → eqb first 0x61 ≡ d → short_of first ≡ next_at s at
        go true d e f =
            let is_store = eqb-true first 0xB3 e in
            let cut = store is_store in
            rw (lt-leb (length s) at (omega arith), ← first_byte some, is_store, lt-leb 3 (length s - at) (omega arith))
        go false true e f =
            let is_long = eqb-true first 0x61 f in
            let cut = long_wait is_long in
            rw (lt-leb (length s) at (omega arith), ← first_byte some, is_long, lt-leb 3 (length s - at) (omega arith))
        go false false e f = rw (lt-leb (length s) at (omega arith), ← first_byte some, e, f)
