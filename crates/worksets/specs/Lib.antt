-- What a reader believes of working sets.
pub mod Call
