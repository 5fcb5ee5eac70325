-- The laws of the specification, general in rate and key length.
pub mod Xors
pub mod ByteWords
pub mod Cut
pub mod States
pub mod RoundTrip
pub mod Steps
pub mod Variants
pub mod Examples
