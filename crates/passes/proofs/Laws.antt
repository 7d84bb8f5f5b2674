-- Laws on the definitions of `designs`.
pub mod Rows
