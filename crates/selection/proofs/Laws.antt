-- Laws on the order of features, on the definition's list of the others, on heaps, and on choosing by one.
pub mod Order
pub mod Others
pub mod Heap
pub mod Select
