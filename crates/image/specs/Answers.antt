-- What writing an image and taking a unit from one answer: request 2026-01's refusals 7 and 8. Assumes nothing.
use Rattle.std.specs.Prelude.{ℕ, Bool, true, false, ◌&&◌, List, length, eqb, ltb, Result, Ok, Err}
use Rattle.ground.specs.Pick.{pick}
use Rattle.apu.specs.Start.{fresh}
use Rattle.apu.specs.declared.Apu.{Apu}
use Rattle.image_fields.specs.Bytes.{stored}
use Rattle.image.specs.Layout.{image_length}
use Rattle.image.specs.Image.{unit_bytes, unit_at, unit_fits}
use Rattle.image.specs.declared.keep.TooShort.{TooShort}
use Rattle.image.specs.declared.keep.Taken.{Taken}

-- "8, place too short (bytes needed)": the answer to a unit kept in so many bytes
unfoldable pub saved_of : ℕ → Result Unit TooShort
saved_of room = pick (ltb room image_length) (Err (record { needed = image_length })) (Ok tt)

-- the bytes after it: the image at their front and the rest as it was; with the refusal all stay
unfoldable pub saved_in : Apu → List ℕ → List ℕ
saved_in u out = pick (ltb (length out) image_length) out (stored out 0 (unit_bytes u))

-- "An image is taken exactly if version, length field and input length are right and all fields lie in document 01's ranges"
unfoldable pub is_taken : List ℕ → Bool
is_taken s = eqb (length s) image_length && unit_fits s 0

-- "the unit beside it is a fresh DMG one"
abbrev pub fresh_dmg : Apu
fresh_dmg = fresh true

-- "7, image wrong (0; the unit beside it is a fresh DMG one)"
abbrev pub taken_if : Bool → Apu → Taken
taken_if true u = record { answer = Ok tt; apu = u }
taken_if false u = record { answer = Err (record {}); apu = fresh_dmg }

unfoldable pub taken_of : List ℕ → Taken
taken_of s = taken_if (is_taken s) (unit_at s 0)
