-- Laws on the definitions of specs/.
pub mod Codes
