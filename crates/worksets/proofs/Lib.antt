-- What belongs to no one function: the laws, which crates above cite, and how tight the promise is.
pub mod Laws
pub mod Tight
