-- The laws that every crate cites. Assumes nothing.
pub mod Cases
pub mod Rounded
pub mod Units
pub mod Same
pub mod Timers
