-- What belongs to no one function: laws on the search, the layouts and the tests, and how tight the promises are.
pub mod Laws
pub mod Tight
