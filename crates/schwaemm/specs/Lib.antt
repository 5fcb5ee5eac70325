-- The specification of Schwaemm, which the engine's contracts and the claims cite.
pub mod Bytes
pub mod Blocks
pub mod Schwaemm
