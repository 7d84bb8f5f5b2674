-- What belongs to no one function: what all thin functions share, and how tight the promises are.
pub mod Laws
pub mod Tight
