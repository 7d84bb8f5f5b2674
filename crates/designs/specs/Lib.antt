-- What a reader believes of the designs: the definitions of every column operation, and the tests before a call.
pub mod Design
pub mod Given
pub mod Search
pub mod Checks
pub mod Inner
