-- Laws on the walks of thin functions.
pub mod Steps
pub mod Thin
