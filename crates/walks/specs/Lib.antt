-- What a caller relies on stands in the crate `definition`.
pub mod Inner
