-- The definition that the contract of a whole opening cites.
pub mod OpenWhole
