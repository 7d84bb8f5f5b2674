-- What a reader believes of a fit: document 01's sections "Working set, extrapolation, loops" and "Refusal numbers", request 5's two calls, and request 7's
-- walk.
pub mod WorkingSet
pub mod Epoch
pub mod Extrapolation
pub mod Run
pub mod Preparation
pub mod Status
pub mod Call
pub mod Pair
pub mod Walk
pub mod Inner
