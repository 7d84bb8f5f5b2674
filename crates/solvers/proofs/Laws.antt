-- Laws on a solve.
pub mod Calls
