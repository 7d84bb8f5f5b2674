-- The claim that the table carries.
pub mod Right
