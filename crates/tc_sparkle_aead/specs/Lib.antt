-- The definitions that the engine's contracts cite, and the lists of calls made of them.
pub mod Message
pub mod Engine
pub mod Calls
pub mod Sheet
pub mod Packet
pub mod OpenWhole
pub mod Worked
