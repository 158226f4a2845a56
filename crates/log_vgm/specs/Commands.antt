-- The commands of a VGM file in their order, from request 2026-05. Assumes nothing.
use Rattle.std.specs.Prelude.{ℕ, zero, suc, ◌+◌, ◌-◌, ◌%◌, ◌≤◌, ◌≡◌, refl, List, ◌&&◌, not, length, get_or, leb, eqb, Option, Some, None, Result, Ok, Err}
use Rattle.std.proofs.Common.{arith, le-leb}
use Rattle.ground.specs.Pick.{pick}
use Rattle.log_vgm.specs.declared.command.Command.{Command}
use Rattle.log_vgm.specs.declared.command.Command.TheVariants.{Store, Wait}
use Rattle.log_vgm.specs.declared.command.Taken.{Taken}
use Rattle.log_vgm.specs.declared.command.NotTaken.{NotTaken}
use Rattle.log_vgm.specs.Header.{two_of}

-- what stands at a place: a command, the end, or what is not taken
abbrev pub Next : Type 0
Next = Result (Option Taken) NotTaken

-- a command
abbrev pub takes : Taken → Next
takes taken = Ok (Some taken)

-- the end
abbrev pub ends : Next
ends = Ok None

-- what is not taken
abbrev pub bad : Next
bad = Err (record {})

-- "commands B3 with registers 00 to 2F": two bytes come after the first
unfoldable pub store_of : ℕ → ℕ → Next
store_of register value = pick (leb register 0x2F) (takes (record { command = Store register value; more = 2 })) bad

-- "waits 61": so many samples, in two bytes
abbrev pub long_of : ℕ → ℕ → Taken
long_of low high = record { command = Wait (two_of low high); more = 2 }

-- "62, 63 and 70 to 7F, and end 66": nothing comes after the first byte
abbrev pub waits_of : ℕ → Taken
waits_of samples = record { command = Wait samples; more = 0 }

unfoldable pub short_of : ℕ → Next
short_of first =
    pick (eqb first 0x62) (takes (waits_of 735))
    (pick (eqb first 0x63) (takes (waits_of 882))
    (pick (eqb first 0x66) ends
    (pick (leb 0x70 first && leb first 0x7F) (takes (waits_of (first % 16 + 1)))
    bad)))

-- the command at a place; "command not taken, cut short or no end" is bad
unfoldable pub next_at : List ℕ → ℕ → Next
next_at s at =
    let first = get_or s at 0 in
    pick (leb (length s) at) bad
    (pick (not (eqb first 0xB3) && not (eqb first 0x61)) (short_of first)
    (pick (leb 3 (length s - at))
    (pick (eqb first 0xB3) (store_of (get_or s (at + 1) 0) (get_or s (at + 2) 0)) (takes (long_of (get_or s (at + 1) 0) (get_or s (at + 2) 0))))
    bad))

-- the commands in order, up to the end, or to a place where none is taken
pub data Track : Type 0 where
  ended : Track
  stopped : ℕ → Track
  after : Command → Track → Track

-- what stands at a place, in front of what `rest` says of the next
abbrev pub grow : ℕ → (ℕ → Track) → Next → Track
grow at rest (Ok (Some taken)) = after taken.command (rest (at + 1 + taken.more))
grow at rest (Ok None) = ended
grow at rest (Err e) = stopped at

-- the commands from a place on, but no more than so many
unfoldable pub walk : ℕ → List ℕ → ℕ → Track
walk zero s at = stopped at
walk (suc f) s at = grow at (walk f s) (next_at s at)

-- all of them: there are no more than the file has bytes
unfoldable pub commands_from : List ℕ → ℕ → Track
commands_from s at = walk (length s) s at

-- this and the next two are facts with their proofs: rests that agree on the next place give the same track
grow_same : (at : ℕ) (f g : ℕ → Track) (k : Next) → ((n : ℕ) → f (at + 1 + n) ≡ g (at + 1 + n)) → grow at f k ≡ grow at g k
grow_same at f g (Ok (Some taken)) h = rw (h taken.more)
grow_same at f g (Ok None) h = refl
grow_same at f g (Err e) h = refl

-- two counts that are both enough give the same
walk_same : (f g : ℕ) (s : List ℕ) (at : ℕ) → length s - at ≤ f → length s - at ≤ g → walk f s at ≡ walk g s at
unfolding pick walk next_at
walk_same zero zero s at h k = refl
walk_same zero (suc g) s at h k = let e : length s ≤ at = omega arith in simp (le-leb _ _ e)
walk_same (suc f) zero s at h k = let e : length s ≤ at = omega arith in simp (le-leb _ _ e)
walk_same (suc f) (suc g) s at h k = grow_same at (walk f s) (walk g s) (next_at s at) (λ n. walk_same f g s (at + 1 + n) (omega arith) (omega arith))

-- what to read `commands_from` as: the commands from a place on are what stands there, before the commands from the next place on
pub commands_step : (s : List ℕ) (at : ℕ) → commands_from s at ≡ grow at (commands_from s) (next_at s at)
unfolding commands_from walk
commands_step s at = walk_same (length s) (suc (length s)) s at (omega arith) (omega arith)

-- the samples of all their waits
abbrev pub samples_in : Track → ℕ
samples_in ended = 0
samples_in (stopped place) = 0
samples_in (after (Store register value) rest) = samples_in rest
samples_in (after (Wait samples) rest) = samples + samples_in rest
