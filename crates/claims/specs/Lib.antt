-- The plain reader of document 01, "Two lists, two sheets", and the words in which the claims are stated.
pub mod Shape
pub mod Reader
pub mod Steps
pub mod Messages
pub mod Refused
pub mod Machine
pub mod Rejected
pub mod WholeOpening
