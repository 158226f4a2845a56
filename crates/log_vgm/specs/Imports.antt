-- What the import of a VGM file is answered, from request 2026-05: refusals 9, 10, 11 and 6. Assumes nothing.
use Rattle.std.specs.Prelude.{ℕ, ◌+◌, ◌-◌, ◌*◌, ◌^◌, min, Bool, true, false, List, ◌++◌, length, drop, ltb, Result, Ok, Err}
use Rattle.ground.specs.Pick.{pick}
use Rattle.log_scan.specs.Answers.{refusal_in, returned_in}
use Rattle.log_vgm.specs.declared.clockwork.Clockwork.{Clockwork}
use Rattle.log_vgm.specs.declared.refusal.ImportRefusal.{ImportRefusal}
use Rattle.log_vgm.specs.declared.refusal.ImportRefusal.TheVariants.{BadHeader, BadCommand, TooLong, TooShort}
use Rattle.log_vgm.specs.Header.{bad_header}
use Rattle.log_vgm.specs.Commands.{Track, ended, stopped, after}
use Rattle.log_vgm.specs.Clockwork.{moved_of}
use Rattle.log_vgm.specs.Log.{track_of, log_of, bytes_by}

-- what a file is answered: the bytes of its log, or a refusal
abbrev pub Imported : Type 0
Imported = Result ℕ ImportRefusal

-- 10: "command not taken, cut short or no end (its place; with no end, the file's length)", or what is said of a file that has none
unfoldable pub or_stopped : Track → Imported → Imported
or_stopped ended a = a
or_stopped (stopped place) a = Err (BadCommand place)
or_stopped (after command rest) a = or_stopped rest a

-- 11: "log would pass 65,536 bytes"; "6 for room", of which there are so many bytes
unfoldable pub fitted : ℕ → ℕ → Imported
fitted room needed = pick (ltb 65536 needed) (Err TooLong) (pick (ltb room needed) (Err (TooShort needed)) (Ok needed))

-- "Refusals, in this order: 9, header wrong", 10, 11, 6
unfoldable pub imported_of : List ℕ → ℕ → Imported
imported_of s room = pick (bad_header s) (Err BadHeader) (or_stopped (track_of s) (fitted room (length (log_of s))))

-- a refusal's number, and the "number returned" beside it: 9 and 11 return 0, 10 the place, 6 the bytes needed
abbrev pub number_of : ImportRefusal → ℕ
number_of BadHeader = 9
number_of (BadCommand place) = 10
number_of TooLong = 11
number_of (TooShort needed) = 6

abbrev pub number_returned : ImportRefusal → ℕ
number_returned BadHeader = 0
number_returned (BadCommand place) = place
number_returned TooLong = 0
number_returned (TooShort needed) = needed

-- the refusal's number; 0 stands for none
abbrev pub refusal_of : Imported → ℕ
refusal_of a = refusal_in number_of a

-- bytes written, or the number returned
abbrev pub returned_of : Imported → ℕ
returned_of a = returned_in (λ (n : ℕ). n) number_returned a

-- a number, or the most where it is above that
abbrev pub capped : ℕ → ℕ → ℕ
capped most n = min n most

-- "result refusal × 2^48 + bytes written or number returned", which has 48 bits: a place above them, which no file has, is told as the greatest
abbrev pub packed : Imported → ℕ
packed a = refusal_of a * 2 ^ 48 + capped (2 ^ 48 - 1) (returned_of a)

-- whether it is no refusal
abbrev pub is_done : Imported → Bool
is_done (Ok written) = true
is_done (Err refusal) = false

-- the lent bytes after it: the log at their front, and those past it stay; with a refusal all of them stay
abbrev pub log_after : Imported → List ℕ → List ℕ → List ℕ
log_after (Ok written) log out = log ++ drop (length log) out
log_after (Err refusal) log out = out

-- ---- for the code alone: what the scan finds, which counts a log's bytes up to one more than it may have
abbrev pub scanned_on : ℕ → Clockwork → Track → Imported
scanned_on bytes c ended = Ok (capped 65537 bytes)
scanned_on bytes c (stopped place) = Err (BadCommand place)
scanned_on bytes c (after command rest) = scanned_on (bytes + length (bytes_by c command)) (moved_of c command) rest
