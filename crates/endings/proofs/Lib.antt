-- When a call is refused with 7, 10 or 11, what a completed run holds, and what its visits hand to a prox.
pub mod Laws
pub mod Seven
pub mod PreparationSeven
pub mod Ten
pub mod Eleven
pub mod Completed
pub mod Thresholds
