-- Laws on the definitions of specs/, which this crate and those above cite.
pub mod Search
pub mod Layouts
pub mod Passed
pub mod Tested
pub mod Gradients
pub mod Numbers
pub mod Moved
pub mod Preparation
