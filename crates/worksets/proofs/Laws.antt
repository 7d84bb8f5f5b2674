-- Laws on the definitions of specs/, which this crate and those above cite.
pub mod Numbers
pub mod Sets
pub mod Places
