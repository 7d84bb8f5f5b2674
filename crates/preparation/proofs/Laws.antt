-- Laws on the preparation.
pub mod Settled
