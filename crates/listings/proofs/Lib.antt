-- What belongs to no one function: the laws, and how tight the promise is.
pub mod Laws
pub mod Tight
