-- Playing on kept units, in reading order. Assumes nothing.
pub mod Answers  -- refusals 7 and 8 around those of a log
pub mod Playing  -- a log on a kept unit
pub mod Making  -- a fresh unit's image
