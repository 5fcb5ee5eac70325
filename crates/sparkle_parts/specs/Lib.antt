-- The definitions that the contracts and the claims of `sparkle_parts` cite.
pub mod Parts
