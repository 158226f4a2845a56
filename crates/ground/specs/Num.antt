-- Rules on small numbers that several parts share. Assumes nothing.
use Rattle.std.specs.Prelude.{ℕ, Bool, ◌&&◌, eqb, leb}
use Rattle.ground.specs.Pick.{pick}

-- of sweep and envelope: "reloads the counter (period, 0 as 8)"
unfoldable pub zero_as_eight : ℕ → ℕ
zero_as_eight period = pick (eqb period 0) 8 period

-- the unit's own addresses: "FF10..FF3F"
abbrev pub is_sound : ℕ → Bool
is_sound addr = leb 0xFF10 addr && leb addr 0xFF3F
