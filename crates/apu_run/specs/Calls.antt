-- The clock calls of a record: the bytes that they make and the unit after them, from document 01, "Steps of a clock call" and
-- "The access log". Assumes nothing.
use Rattle.std.specs.Prelude.{ℕ, zero, suc, ◌+◌, Bool, true, false, List, [], ◌++◌, length, Result, Ok, Err}
use Rattle.frame.specs.Buffers.{Buffers}
use Rattle.log_records.specs.Divider.{divider_at}
use Rattle.log_records.specs.declared.divider.Divider.{Divider}
use Rattle.log_items.specs.Items.{frame_item}
use Rattle.apu_clock.specs.Clocking.{After, clock_of, lent}
use Rattle.apu.specs.declared.Apu.{Apu}
use Rattle.apu_clock.specs.declared.clock.NoRoom.{NoRoom}
use Rattle.apu_run.specs.declared.calls.Play.{Play}

-- ---- a clock call

-- the call itself, with room for the one frame that it can make
abbrev pub called : Bool → ℕ → Apu → After
called double divider a = clock_of a double divider 0 lent

-- "per frame hex 46 and ten f32 patterns"
abbrev pub answer_bytes : Result Bool NoRoom → Buffers → List ℕ
answer_bytes (Ok false) b = []
answer_bytes (Ok true) b = frame_item b
answer_bytes (Err full) b = []

-- the bytes that a call makes, and the unit after it
unfoldable pub call_bytes : Bool → ℕ → Apu → List ℕ
call_bytes double divider a = answer_bytes (called double divider a).clocked.answer (called double divider a).buffers

unfoldable pub call_unit : Bool → ℕ → Apu → Apu
call_unit double divider a = (called double divider a).clocked.apu

-- k calls of a record from call i on: the bytes, and the unit after them
unfoldable pub clocks_bytes : Bool → Divider → ℕ → ℕ → Apu → List ℕ
clocks_bytes double divider i zero a = []
clocks_bytes double divider i (suc k) a =
    call_bytes double (divider_at divider i) a ++ clocks_bytes double divider (suc i) k (call_unit double (divider_at divider i) a)

unfoldable pub after_clocks : Bool → Divider → ℕ → ℕ → Apu → Apu
after_clocks double divider i zero a = a
after_clocks double divider i (suc k) a = after_clocks double divider (suc i) k (call_unit double (divider_at divider i) a)

-- the player's state after some playing: the unit, and the place so many bytes further
abbrev pub further : Play → Apu → List ℕ → Play
further p a bytes = record { apu = a; at = p.at + length bytes }
