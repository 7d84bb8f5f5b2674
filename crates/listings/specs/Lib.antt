-- What a reader believes of listings.
pub mod Listing
pub mod Call
pub mod Inner
