-- What the contracts of every crate cite, in reading order. Assumes nothing.
-- To read these files: a line `name : A → B` says what goes in and what comes out, the lines under it what the name means, case by case.
-- ℕ are the whole numbers from 0 up: `-` stops at 0, `/` rounds down, `%` is the remainder. `eqb`, `ltb` and `leb` test =, < and ≤; `r.f` is the field f of r.
-- A list is [] or x ∷ xs, and ++ joins two; `get_or xs i d` is element i (d past the end), `set xs i x` has x there. A record of conditions asks each of them.
-- `declared` are the code's own records and enums. `pub`, `abbrev` and `unfoldable` say who may use and open a name, not what it means.
pub mod Pick  -- a choice by a test
pub mod Num  -- rules on small numbers
pub mod Units  -- floats as whole numbers of a unit
pub mod Iterate  -- a rule put to use so many times
-- ---- for speed and its proofs alone: no rule is said in these words, and no promise to who calls the unit or plays a log
pub mod Timer  -- many clocks of a timer
