-- What a reader believes of a problem file: document 01's section "Problem file and listing".
pub mod Bytes
pub mod Problem
pub mod Call
pub mod Written
pub mod Inner
