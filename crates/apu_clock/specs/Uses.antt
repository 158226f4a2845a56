-- Any use of the unit: the calls that there are, what each makes of the unit and its frames, and how its clocks see it.
-- Demand 3 speaks of these. Assumes nothing.
use Rattle.std.specs.Prelude.{Bool, true, false, List, [], ◌∷◌, ℕ, ◌+◌, ◌≤◌, Result, Ok, Err}
use Rattle.clocks.specs.Calls.{Call, at_speed, other, refused, Clocks}
use Rattle.frame.specs.Buffers.{Buffers}
use Rattle.apu.specs.Registers.{read_of, write_of}
use Rattle.apu_clock.specs.Clocking.{clock_of}
use Rattle.apu.specs.declared.Apu.{Apu}
use Rattle.apu.specs.declared.registers.WrongAddress.{WrongAddress}
use Rattle.apu_clock.specs.declared.clock.NoRoom.{NoRoom}

-- a read and a write at an address, the two PCM reads, and a clock call with speed, divider, place and whatever is lent
pub data Use : Type 0 where
  read : ℕ → Use
  write : ℕ → ℕ → Use
  pcm12 pcm34 : Use
  clock : Bool → ℕ → ℕ → Buffers → Use

-- what a use writes
abbrev pub value_of : Use → ℕ
value_of (read addr) = 0
value_of (write addr value) = value
value_of pcm12 = 0
value_of pcm34 = 0
value_of (clock double divider place b) = 0

-- a row in which every value written is a byte
infixr 4 ◌then◌
pub data Bytes : List Use → Type 0 where
  end : Bytes []
  ◌then◌ : {u : Use} {us : List Use} → value_of u ≤ 255 → Bytes us → Bytes (u ∷ us)

-- the unit, and the frames that it has made
pub record State : Type 0 where
  pub apu : Apu
  pub frames : ℕ

-- one frame more where one was made
abbrev pub counted : Result Bool NoRoom → ℕ → ℕ
counted (Ok false) frames = frames
counted (Ok true) frames = frames + 1
counted (Err full) frames = frames

-- what a use makes: the unit's own definitions
unfoldable pub step : Use → State → State
step (read addr) s = s
step (write addr value) s = record { apu = (write_of s.apu addr value).apu; frames = s.frames }
step pcm12 s = s
step pcm34 s = s
step (clock double divider place b) s =
    let r = (clock_of s.apu double divider place b).clocked in
    record { apu = r.apu; frames = counted r.answer s.frames }

-- accepted or refused, by the answer
abbrev pub read_kind : Result ℕ WrongAddress → Call
read_kind (Ok b) = other
read_kind (Err wrong) = refused

abbrev pub write_kind : Result Unit WrongAddress → Call
write_kind (Ok done) = other
write_kind (Err wrong) = refused

abbrev pub clock_kind : Bool → Result Bool NoRoom → Call
clock_kind double (Ok made) = at_speed double
clock_kind double (Err full) = refused

-- how the clocks see a use
unfoldable pub kind : Use → State → Call
kind (read addr) s = read_kind (read_of s.apu addr)
kind (write addr value) s = write_kind (write_of s.apu addr value).answer
kind pcm12 s = other
kind pcm34 s = other
kind (clock double divider place b) s = clock_kind double (clock_of s.apu double divider place b).clocked.answer

-- what demand 3 sees of the unit
abbrev pub see : State → Clocks
see s = record { half = s.apu.clocks_counter; counter = s.apu.sample_counter; frames = s.frames }
