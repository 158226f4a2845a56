-- What a header that is taken has. Assumes nothing.
use Prim.Native.Nat.{ℕ, ◌≤◌}
use mathlib.Core.Path.{◌≡◌, refl}
use mathlib.Core.Bool.{Bool, true, false}
use mathlib.Core.List.{List}
use borrow.Author.Tests.{ltb-false}
use lib.ListN.{length}
use lib.Dec.{ltb}
use Rattle.ground.specs.Pick.{pick}
use Rattle.log_vgm.specs.Header.{bad_header}

-- all of its bytes
pub header_long : (s : List ℕ) → bad_header s ≡ false → 0x84 ≤ length s
unfolding pick bad_header
header_long s e = ltb-false (length s) 0x84 (go (ltb (length s) 0x84) _ e)
  where
    go : (b c : Bool) → pick b true c ≡ false → b ≡ false
    go true c e = e
    go false c e = refl
