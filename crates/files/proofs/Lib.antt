-- Laws that belong to no one function, the tightness of the public promise, and the round trip.
pub mod Laws
pub mod Tight
pub mod RoundTrip
