-- What reads and writes answer, and document 01's numbers for it: "What each call may refuse". Assumes nothing.
use Rattle.std.specs.Prelude.{ℕ, Result, Ok, Err}
use Rattle.apu.specs.declared.registers.WrongAddress.{WrongAddress}

-- 0 stands for no refusal; 1 is "read or write outside FF10..FF3F"
abbrev pub refusal_of_read : Result ℕ WrongAddress → ℕ
refusal_of_read (Ok b) = 0
refusal_of_read (Err wrong) = 1

abbrev pub refusal_of_write : Result Unit WrongAddress → ℕ
refusal_of_write (Ok done) = 0
refusal_of_write (Err wrong) = 1

-- the number returned: of a read its byte, of a write or a refusal 0
abbrev pub returned_of_read : Result ℕ WrongAddress → ℕ
returned_of_read (Ok b) = b
returned_of_read (Err wrong) = 0

abbrev pub returned_of_write : Result Unit WrongAddress → ℕ
returned_of_write (Ok done) = 0
returned_of_write (Err wrong) = 0
