-- Laws on the definitions of specs/, which the crates above cite.
pub mod Settings
pub mod Passed
pub mod Handed
pub mod Prepared
pub mod Refusals
pub mod Ends
pub mod Left
pub mod Pair
pub mod Walk
pub mod Problem
