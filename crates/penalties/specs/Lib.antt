-- What a reader believes of the leaves, in document 01's order.
pub mod Soft
pub mod Penalty
pub mod Odd
pub mod Prox01
