-- An imported log, played: room is all that it can lack, and S samples make S - 1 frames. Assumes nothing.
use Prim.Native.Nat.{ℕ, ◌-◌, ◌≤◌}
use mathlib.Core.Path.{◌≡◌, ap, ◌∙◌}
use mathlib.Core.Bool.{true}
use mathlib.Core.List.{List}
use lib.ListN.{length}
use lib.Dec.{ltb}
use Rattle.ground.specs.Pick.{pick}
use Rattle.log_records.specs.Judge.{Judged}
use Rattle.log_records.specs.Records.{listed}
use Rattle.log_scan.specs.Answers.{refused_within}
use Rattle.log_vgm.specs.Commands.{samples_in}
use Rattle.log_vgm.specs.Log.{track_of, imported_records, log_of}
use Rattle.log_vgm.specs.Imports.{is_done, imported_of}
use Rattle.log_vgm.proofs.Playing.{imported_listed, imported_taken, imported_frames}
use Rattle.log_player.specs.Playing.{unit_of_start}
use Rattle.log_player.specs.Frames.{made_by}
use Rattle.log_player.specs.Logs.{bytes_of_log, refused_log}
use Rattle.log_player.proofs.Frames.{frames_made_fresh}

module _ (s : List ℕ) (room : ℕ) (done : is_done (imported_of s room) ≡ true) where
  pub imported_played : (out : ℕ) → refused_log (log_of s) out ≡ pick (ltb out (length (bytes_of_log (log_of s)))) 6 0
  unfolding refused_within
  imported_played out = imported_taken s room done (pick (ltb out (length (bytes_of_log (log_of s)))) 6 0)

  pub imported_made : 1 ≤ samples_in (track_of s) → made_by (listed (log_of s)) (unit_of_start 1) ≡ samples_in (track_of s) - 1
  imported_made some =
      ap (λ (l : List Judged). made_by l (unit_of_start 1)) (imported_listed s)
      ∙ frames_made_fresh (imported_records s) 1
      ∙ imported_frames s room done some
