-- Laws that belong to no one function, and the tightness of the public promises.
mod Laws
mod Tight
