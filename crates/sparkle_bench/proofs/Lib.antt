-- The law that a proof of `sparkle_bench` cites, and its claims.
pub mod RunLaws
pub mod Claims
