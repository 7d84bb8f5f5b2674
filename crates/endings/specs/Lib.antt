-- What a reader believes of how a run ends, and of refusals 7, 10 and 11.
pub mod NotFinite
pub mod Ten
pub mod Eleven
pub mod Completed
pub mod Thresholds
