-- The records of an access log, in reading order. Assumes nothing.
pub mod Divider  -- the divider in each call of a clock record
pub mod Judge  -- what a record's body says
pub mod Records  -- the log as a row of records
