-- The definitions that the boundary's contracts cite.
pub mod Bytes
pub mod CallList
pub mod Stop
