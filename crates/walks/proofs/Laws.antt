-- Laws on a walk.
pub mod Tests
pub mod Fits
