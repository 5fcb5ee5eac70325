-- The known answers.
pub mod Vectors
