-- From the parts of one call to the whole of it.
pub mod Exact
pub mod Columns
pub mod Prepared
pub mod Steps
pub mod Faults
pub mod Left
