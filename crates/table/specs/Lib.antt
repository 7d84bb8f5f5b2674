-- What a reader believes of the table of values.
pub mod Table
