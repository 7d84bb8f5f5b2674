-- Laws on the inner loops' definitions.
pub mod Ready
pub mod Epochs
pub mod Reached
