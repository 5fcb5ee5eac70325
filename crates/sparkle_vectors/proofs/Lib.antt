-- Two of the vectors as theorems.
pub mod Vectors
