-- Nothing here is for a reader of a promise: the definition of the set is runs/specs/WorkingSet.antt.
pub mod Inner
