-- So many zeros are that many. Assumes nothing.
use Prim.Native.Nat.{ℕ}
use mathlib.Core.Path.{◌≡◌, refl, sym, ap, ◌∙◌}
use mathlib.Core.List.{List}
use lib.ListN.{length, replicate, length-replicate}
use Rattle.importer.proofs.room.Goals as goal

as_many : (n : ℕ) (l : List ℕ) → l ≡ replicate n 0 → n ≡ length l
as_many n l e = sym (length-replicate n 0) ∙ ap length (sym e)

pub returns : goal.returns
returns c = as_many 1048577 _ refl
