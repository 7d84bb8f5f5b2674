-- What a reader believes of the program: what it prints for a file.
pub mod Printed
pub mod AsBefore
pub mod Inner
