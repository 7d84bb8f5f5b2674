-- From a step to the whole run.
pub mod Loops
pub mod Points
pub mod Rows
