-- The laws of runs in parts.
pub mod Claims
