-- The sign law, that of two walks, their plain cases, an example with extrapolation on, and the laws on the way to it.
pub mod Laws
pub mod SignLaw
pub mod WalkLaw
pub mod Cases
pub mod Example
