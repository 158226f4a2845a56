-- A working clock that leaves the stored bit as it is, and so the sequencer, from document 01, "Steps of a clock call"; and many of them. Assumes nothing.
use Rattle.std.specs.Prelude.{ℕ, List, [], ◌++◌}
use Rattle.ground.specs.Pick.{pick}
use Rattle.ground.specs.Iterate.{iterate}
use Rattle.clocks.specs.Counter.{every_at, tick_by}
use Rattle.log_items.specs.Items.{mix_item}
use Rattle.apu.specs.With.{with_clocks}
use Rattle.apu_clock.specs.Clocking.{pushed}
use Rattle.apu_clock.specs.Sequencer.{channels_clocked}
use Rattle.apu.specs.declared.Apu.{Apu}

-- "With power off, stop", else "Clock pulse 1, pulse 2, wave, noise"
unfoldable pub passing : Apu → Apu
passing a = pick a.power (channels_clocked a) a

-- "Add 1 to the f64 sample counter. At or above N .. make a frame and subtract N", then the channels
unfoldable pub working : Apu → Apu
working a =
    let ticked = tick_by (every_at 44100) a.sample_counter in
    passing (with_clocks (pick ticked.made (pushed a).apu a) ticked.counter a.clocks_counter)

-- the bytes of its frame, where it makes one
unfoldable pub working_bytes : Apu → List ℕ
working_bytes a = pick (tick_by (every_at 44100) a.sample_counter).made (mix_item (pushed a).mix) []

-- a unit, and the bytes that it has made
pub record Take : Type 0 where
  pub apu : Apu
  pub bytes : List ℕ

-- one working clock more
unfoldable pub working_on : Take → Take
working_on t = record { apu = working t.apu; bytes = t.bytes ++ working_bytes t.apu }

-- so many working clocks, from a unit that has made nothing yet
abbrev pub ran_of : ℕ → Apu → Take
ran_of count a = iterate count working_on (record { apu = a; bytes = [] })
