-- Calls that see one divider bit, as so many working clocks, from document 01, "Steps of a clock call". For the code and its proof alone: what a record's calls
-- do is said in Calls.antt. Assumes nothing.
use Rattle.std.specs.Prelude.{◌≡◌, Bool, false, not, ◌&&◌, ◌||◌, ℕ, ◌+◌, ◌-◌, ◌*◌, ◌/◌, ◌%◌, ◌<◌, eqb, min}
use Rattle.ground.specs.Pick.{pick}
use Rattle.clocks.specs.Metered.{gained}
use Rattle.apu.specs.With.{with_clocks, with_bit}
use Rattle.apu_clock.specs.Sequencer.{bit_of, advanced}
use Rattle.apu.specs.declared.Apu.{Apu}
use Rattle.log_records.specs.Divider.{divider_at}
use Rattle.log_records.specs.declared.divider.Divider.{Divider}
use Rattle.log_records.specs.declared.divider.Divider.TheVariants.{Standing, Running}
use Rattle.apu_run.specs.declared.calls.Met.{Met}

-- how far "divider bit 4 (5 in double speed)" is from its next change, in calls, 64 of which are one of the divider
unfoldable pub change_of : Bool → ℕ → ℕ
change_of double place = pick double (2048 - place % 2048) (1024 - place % 1024)

-- of so many calls from call i on: where the divider runs, those up to the bit's next change; where it stands, all
abbrev pub same_of : Bool → Divider → ℕ → ℕ → ℕ
same_of double (Standing byte phase) i count = count
same_of double (Running byte phase) i count = min (change_of double (byte * 64 + phase + i)) count

-- k calls from call i on see one bit
abbrev pub OneBit : Bool → Divider → ℕ → ℕ → Type 0
OneBit double d i k = (j : ℕ) → j < k → bit_of double (divider_at d (i + j)) ≡ bit_of double (divider_at d i)

-- what so many calls with one bit come to: "Store divider bit .. On a fall from the bit stored before" is for their first working clock, and with power on
abbrev pub met_of : ℕ → Bool → Bool → Bool → Bool → ℕ → Met
met_of half power stored double bit count =
    let halves = half + gained double count in
    let seen = power && not (eqb (halves / 2) 0) in
    record { half = halves % 2; working = halves / 2; fell = seen && (stored && not bit); stored = stored || (seen && bit) }

-- the unit with other half-clocks and another stored bit: a run of working clocks reads neither
abbrev pub marked : Apu → ℕ → Bool → Apu
marked a half bit = with_bit (with_clocks a a.sample_counter half) bit

-- the sequencer's step, where the last working clock saw the bit fall
abbrev pub fallen : Apu → Apu
fallen a = advanced (with_bit a false)
