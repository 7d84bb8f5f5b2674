-- Laws on the sizes that settings ask for.
pub mod Room
