-- Computed for the sixteen outputs. Assumes nothing.
use borrow.Author.Rules.{rules}
use native.Mathlib.Omega.{arith}
use mathlib.Core.Path.{◌≡◌, refl}
use mathlib.Core.Bool.{not}
use Prim.Native.Nat.{ℕ, zero, suc, ◌+◌, ◌≤◌}
use lib.Dec.{T}
use lib.IntN.{pos}
use lib.Ieee.{binary32, nan_bits, of_bits, of_int, sub}
use Rattle.apu_run.proofs.levels.whole.Statement.{statement}
use Rattle.apu_run.proofs.levels.whole.Tie as tie

-- 4B000000 is the pattern of 2^23, and the next ones are those of the numbers after it
whole_is : (n : ℕ) → n ≤ 15
    → T (not (nan_bits binary32 (0x4B00_0000 + n)))
    × (sub binary32 (of_bits binary32 (0x4B00_0000 + n)) (of_bits binary32 0x4B00_0000) ≡ of_int binary32 (pos n))
unfolding nan_bits of_bits of_int sub
whole_is zero h = (tt, refl)
whole_is (suc zero) h = (tt, refl)
whole_is (suc (suc zero)) h = (tt, refl)
whole_is (suc (suc (suc zero))) h = (tt, refl)
whole_is (suc (suc (suc (suc zero)))) h = (tt, refl)
whole_is (suc (suc (suc (suc (suc zero))))) h = (tt, refl)
whole_is (suc (suc (suc (suc (suc (suc zero)))))) h = (tt, refl)
whole_is (suc (suc (suc (suc (suc (suc (suc zero))))))) h = (tt, refl)
whole_is (suc (suc (suc (suc (suc (suc (suc (suc zero)))))))) h = (tt, refl)
whole_is (suc (suc (suc (suc (suc (suc (suc (suc (suc zero))))))))) h = (tt, refl)
whole_is (suc (suc (suc (suc (suc (suc (suc (suc (suc (suc zero)))))))))) h = (tt, refl)
whole_is (suc (suc (suc (suc (suc (suc (suc (suc (suc (suc (suc zero))))))))))) h = (tt, refl)
whole_is (suc (suc (suc (suc (suc (suc (suc (suc (suc (suc (suc (suc zero)))))))))))) h = (tt, refl)
whole_is (suc (suc (suc (suc (suc (suc (suc (suc (suc (suc (suc (suc (suc zero))))))))))))) h = (tt, refl)
whole_is (suc (suc (suc (suc (suc (suc (suc (suc (suc (suc (suc (suc (suc (suc zero)))))))))))))) h = (tt, refl)
whole_is (suc (suc (suc (suc (suc (suc (suc (suc (suc (suc (suc (suc (suc (suc (suc zero))))))))))))))) h = (tt, refl)
whole_is (suc (suc (suc (suc (suc (suc (suc (suc (suc (suc (suc (suc (suc (suc (suc (suc n)))))))))))))))) h = absurd (omega arith)

pub whole_spec : {M : Type 1} → statement M
whole_spec =
    tie.close
    (tie.spec
    (λ c. search rules)
    (λ c. (whole_is c.args.output c.requires).0)
    (λ c. (whole_is c.args.output c.requires).1))
