-- Laws on the definitions of `designs`.
pub mod ByRows
pub mod Finite
