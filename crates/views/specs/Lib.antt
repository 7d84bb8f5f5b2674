-- What a reader believes of the calls over a view, besides the definitions of the crates below.
pub mod Check
