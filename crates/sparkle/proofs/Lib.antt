-- The laws that the proofs of `sparkle`, and of the crates above it, cite.
pub mod Tab
pub mod Sizes
pub mod Xor
pub mod Rotate
pub mod Lengths
pub mod Below
pub mod Bounds
pub mod Runs
pub mod Arrays
pub mod LaneLaws
pub mod Rows
pub mod WorkedExamples
pub mod Claims
