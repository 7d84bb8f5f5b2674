-- What the contracts of the record's parts cite.
pub mod AllWithin
