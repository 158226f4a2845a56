-- The noise reloads as a list, one for each FF22 byte, from document 02, 2026-03. Assumes nothing.
use Rattle.std.specs.Prelude.{ℕ, zero, suc, List, [], ◌∷◌}
use Rattle.channel_noise.specs.Noise.{reload_at}

-- the n values of a rule from k on, in order
unfoldable pub values_from : (ℕ → ℕ) → ℕ → ℕ → List ℕ
values_from rule k zero = []
values_from rule k (suc n) = rule k ∷ values_from rule (suc k) n

-- "a table of 256 numbers indexed by the FF22 byte"
unfoldable pub reload_list : List ℕ
reload_list = values_from reload_at 0 256
