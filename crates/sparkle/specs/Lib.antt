-- The definitions that the contracts of `sparkle` cite.
pub mod Words
pub mod Sparkle
pub mod Lanes
