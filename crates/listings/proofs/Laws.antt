-- Laws on the definitions of specs/.
pub mod Chain
pub mod Digits
pub mod Lines
pub mod Calls
