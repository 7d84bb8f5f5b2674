-- From one visit to the whole run.
pub mod Changed
pub mod Broken
pub mod Breaks
pub mod Points
