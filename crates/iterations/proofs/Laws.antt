-- Laws on the outer loop's definitions.
pub mod Reached
pub mod Turns
pub mod Cleared
