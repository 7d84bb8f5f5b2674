-- What a reader believes of the datafit's public calls.
pub mod Calls
