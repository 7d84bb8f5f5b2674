-- What a reader believes of the kernels.
pub mod Kernels
