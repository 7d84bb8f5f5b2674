-- What a reader believes of the calls from other languages.
pub mod Codes
