-- A rule put to use so many times. Assumes nothing.
use Rattle.std.specs.Prelude.{ℕ, zero, suc}

-- f put to use n times, first on a
unfoldable pub iterate : {A : Type 0} → ℕ → (A → A) → A → A
iterate zero f a = a
iterate (suc n) f a = iterate n f (f a)
