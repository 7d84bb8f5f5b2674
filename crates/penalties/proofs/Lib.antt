-- What belongs to no one function: the penalties' signs, one alpha in place of another and what a prox answers to numbers, which crates above cite, and
-- how tight the promises are.
pub mod Odd
pub mod Alpha
pub mod Numbers
pub mod Tight
