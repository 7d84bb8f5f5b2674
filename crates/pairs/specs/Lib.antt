-- What a reader believes of preparing and then solving.
pub mod Single
pub mod AsSingle
