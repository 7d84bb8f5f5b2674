-- What a reader believes of demand 3.
pub mod Turning
