-- What a reader believes of the elimination.
pub mod Answer
pub mod Elimination
