-- Laws that belong to no one function, and the tightness of the public promise.
pub mod Laws
pub mod Tight
