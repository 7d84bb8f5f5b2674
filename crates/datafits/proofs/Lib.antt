-- What belongs to no one function: laws on the tests, and how tight the promises are.
pub mod Laws
pub mod Tight
