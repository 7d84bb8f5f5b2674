-- The laws that the functions of this crate stand on.
pub mod Laws
