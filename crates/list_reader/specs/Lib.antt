-- What the contracts of the reader and of the record's parts cite.
pub mod Count
pub mod ProgressWithin
pub mod Within
