-- Laws on the system.
pub mod System
