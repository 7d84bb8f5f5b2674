-- Laws on what the program prints.
pub mod Calls
