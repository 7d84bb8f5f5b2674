-- What only contracts of inner functions cite.
pub mod Fits
