-- From the scan's answer to the player's: the bytes that were counted are those that are made. Assumes nothing.
use Prim.Native.Nat.{ℕ, ◌≤◌}
use mathlib.Core.Path.{◌≡◌, sym, ◌∙◌, ap, ap₂}
use mathlib.Core.Bool.{true, false}
use mathlib.Core.List.{List}
use native.Mathlib.Nat.{zero-add}
use lib.ListN.{length, get_or}
use lib.Seq.{sets, sets-eq}
use Rattle.apu.specs.Held.{Held, FloatsHeld}
use Rattle.apu.specs.declared.Apu.{Apu}
use Rattle.apu_clock.specs.Demand3.{meter_of}
use Rattle.apu_clock.proofs.Demand3.{stored_held}
use Rattle.log_records.specs.Records.{listed}
use Rattle.log_scan.specs.Answers.{LogAnswer, refusal_of, returned_of, is_done, scanned_as, scanned_from, within_room, out_after}
use Rattle.log_scan.proofs.Refusals.{log_refuses}
use Rattle.log_scan.proofs.Bounds.{Packs, answer_packs}
use Rattle.log_scan.proofs.Done.{done_fits, done_out, refused_out}
use Rattle.log_player.specs.Playing.{unit_of_start, output}
use Rattle.log_player.specs.Frames.{made_by}
use Rattle.log_player.specs.Logs.{answer_on, refused_on, returned_on, answer_of}
use Rattle.log_player.proofs.Frames.{frames_made, bytes_needed, start_ready}

-- ---- on a unit in its ranges
module _ (a : Apu) (h : Held a) (k : FloatsHeld a) (s : List ℕ) where
  -- bytes and frames by the formula are those that are made
  counted : scanned_from (meter_of a) s ≡ scanned_as (length (output (listed s) a)) (made_by (listed s) a) s
  counted = ap₂ (λ (n f : ℕ). scanned_as n f s) (bytes_needed (listed s) a h k) (sym (frames_made (listed s) a h k))

  -- all that is said of the scan's answer within a room
  pub answered : (room : ℕ) {scanned within : LogAnswer} → scanned ≡ scanned_from (meter_of a) s → within ≡ within_room room scanned
      → (within ≡ answer_on a s room) × ((refusal_of within ≡ refused_on a s room) × (returned_of within ≡ returned_on a s))
  answered room {scanned} {within} e w = (is, rw is (log_refuses room (length (output (listed s) a)) (made_by (listed s) a) s))
    where
      is : within ≡ answer_on a s room
      is = w ∙ ap (within_room room) (e ∙ counted)

  -- the number returned stays in 48 bits
  pub answer_packs_on : (room : ℕ) → Packs (answer_on a s room)
  answer_packs_on room = rw counted at (answer_packs (meter_of a) (stored_held a h k) room s)

-- ---- on any unit: a log that is done has room, and its bytes are put at the front; a refusal leaves the output
pub room_on : (a : Apu) (s : List ℕ) (room : ℕ) → is_done (answer_on a s room) ≡ true → length (output (listed s) a) ≤ room
room_on a s room d = done_fits room (length (output (listed s) a)) (made_by (listed s) a) s d

module _ (a : Apu) (s out : List ℕ) {answer : LogAnswer} (e : answer ≡ answer_on a s (length out)) where
  abbrev bytes : List ℕ
  bytes = output (listed s) a

  pub room : is_done answer ≡ true → length bytes ≤ length out
  room d = room_on a s (length out) (rw e at d)

  pub put_out : is_done answer ≡ true → sets out 0 bytes ≡ out_after answer bytes out
  put_out d = rw (zero-add (length bytes)) at (sets-eq bytes out 0 (rw (zero-add (length bytes)) (room d))) ∙ sym (done_out answer bytes out d)

  pub kept_out : is_done answer ≡ false → out ≡ out_after answer bytes out
  kept_out d = sym (refused_out answer bytes out d)

  -- all that is said of answer and output, the unit being known by another name
  pub told_on : {b : Apu} {out' : List ℕ} → a ≡ b → out' ≡ out_after answer bytes out
      → (answer ≡ answer_on b s (length out))
      × ((out' ≡ out_after answer (output (listed s) b) out) × ((refusal_of answer ≡ refused_on b s (length out)) × (returned_of answer ≡ returned_on b s)))
  told_on u o = rw (← u) (e, (o, rw e (log_refuses (length out) (length bytes) (made_by (listed s) a) s)))

-- ---- on the unit that the start byte asks for
pub played_packs : (s : List ℕ) (room : ℕ) → Packs (answer_of s room)
played_packs s room = let ready = start_ready (get_or s 1 0) in answer_packs_on (unit_of_start (get_or s 1 0)) ready.0 ready.1 s room
