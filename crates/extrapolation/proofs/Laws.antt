-- Laws on the definitions of the extrapolation.
pub mod Scratch
pub mod Tries
pub mod Step
