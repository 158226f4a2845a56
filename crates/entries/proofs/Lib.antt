-- The laws of entries put to use one after the other. Assumes nothing.
pub mod Imported  -- an imported log, played
