-- What belongs to no one function: how tight the promise is.
mod Tight
