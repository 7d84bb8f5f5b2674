-- Preparing and then solving is the single call, and so it is in document 01's order.
pub mod AsSingle
pub mod AsOrdered
