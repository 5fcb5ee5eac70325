-- The definitions that the contracts of whole packets cite.
pub mod Packet
