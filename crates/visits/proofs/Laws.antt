-- Laws on violations and visits.
pub mod Violations
pub mod Visits
