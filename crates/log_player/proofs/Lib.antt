-- The laws of playing. Assumes nothing.
pub mod Recorded  -- one record
pub mod Bodies  -- a body that is a write to one group
pub mod Groups  -- a write to one group
pub mod Appending  -- one row of records after another
pub mod Frames  -- how many frames and bytes there are
pub mod Coming  -- what is to come of a log
pub mod Reckoning  -- clock records in numbers
pub mod Walking  -- a row of records
pub mod Answering  -- a whole log
pub mod Cutting  -- clock records cut in two
