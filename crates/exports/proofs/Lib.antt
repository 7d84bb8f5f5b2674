-- The tightness of the public promises.
mod Tight
