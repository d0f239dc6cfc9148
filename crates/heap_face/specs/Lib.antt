pub mod Heap
pub mod Collection
