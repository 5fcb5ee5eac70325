-- What stands below the engine: the definitions that engine, reader and boundary share.
pub mod Variant
pub mod Refusals
pub mod Checks
pub mod Call
pub mod Outcome
pub mod Reply
pub mod PacketCheck
