-- The record at a place: where its body ends, and the write to one group's registers that it may be. For the code of `play_list` and its proof alone: what a
-- record does is said in Playing.antt. Assumes nothing.
use Rattle.std.specs.Prelude.{ℕ, ◌+◌, ◌-◌, Bool, ◌&&◌, List, eqb, ltb, length, get_or, Option, Some, None, Ok, Err}
use Rattle.ground.specs.Pick.{pick}
use Rattle.log_records.specs.Records.{Cut}
use Rattle.log_records.specs.Judge.{Judged, word}
use Rattle.log_records.specs.declared.judge.Record.TheVariants.{Write, Read, Clock, Pcm}
use Rattle.log_player.specs.declared.body.GroupWrite.{GroupWrite}
use Rattle.log_player.specs.declared.body.Group.TheVariants.{Pulse1, Pulse2, Wave, Noise}

-- "two length bytes, big-endian, and the body of that many bytes": the place after a whole record, or none
abbrev pub part_of : ℕ → Cut → Option ℕ
part_of at (Ok None) = None
part_of at (Err fault) = None
part_of at (Ok (Some n)) = Some (at + 2 + n)

-- FF11..FF14 are pulse 1's, FF15..FF19 pulse 2's, FF1A..FF1E the wave channel's, FF1F..FF23 the noise channel's; a group counts from its own first address
unfoldable pub group_at : ℕ → ℕ → Option GroupWrite
group_at addr value =
    pick (ltb addr 0xFF11) None
    (pick (ltb addr 0xFF15) (Some (record { group = Pulse1; offset = addr - 0xFF10; value = value }))
    (pick (ltb addr 0xFF1A) (Some (record { group = Pulse2; offset = addr - 0xFF15; value = value }))
    (pick (ltb addr 0xFF1F) (Some (record { group = Wave; offset = addr - 0xFF1A; value = value }))
    (pick (ltb addr 0xFF24) (Some (record { group = Noise; offset = addr - 0xFF1F; value = value }))
    None))))

-- the write that a record is
abbrev pub group_write_of : Judged → Option GroupWrite
group_write_of (Ok (Write addr value)) = group_at addr value
group_write_of (Ok (Read addr)) = None
group_write_of (Ok (Clock double divider count)) = None
group_write_of (Ok Pcm) = None
group_write_of (Err fault) = None

-- "01 addr value" in every version: the write that a body by itself is with power on
unfoldable pub group_write_in : List ℕ → Bool → Option GroupWrite
group_write_in body power =
    pick (eqb (length body) 4) (pick (power && eqb (get_or body 0 0) 1) (group_at (word body 1) (get_or body 3 0)) None) None
