-- The definitions that the contracts and the claims of `sparkle_bench` cite.
pub mod Sizes
pub mod Run
