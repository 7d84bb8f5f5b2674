-- Laws on the definition of a problem file.
pub mod Fields
pub mod Walk
pub mod Calls
pub mod Lies
