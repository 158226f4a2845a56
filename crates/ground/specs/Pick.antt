-- Choice by a test, as the rules use it. The library's `cond` means the same; this one stays as it is written until a proof opens it. Assumes nothing.
use Rattle.std.specs.Prelude.{Bool, true, false}

-- the first where the test holds, else the second
unfoldable pub pick : {A : Type 0} → Bool → A → A → A
pick true a b = a
pick false a b = b
