-- What belongs to no one function: the laws, which crates above cite, what the library says of doubles, and how tight the promises are.
pub mod Laws
pub mod Tight
pub mod Library
