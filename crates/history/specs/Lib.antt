-- What a reader believes stands in the crates below; here is what contracts of inner functions cite.
pub mod Inner
