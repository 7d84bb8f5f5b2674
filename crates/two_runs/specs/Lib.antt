-- What a reader believes of two runs that are compared.
pub mod Stages
pub mod Alike
