-- The law of two runs, the law of one that follows from it, and the laws on the way.
pub mod Laws
pub mod TwoRuns
pub mod OneRun
