-- The definitions that the dispatcher's contract cites.
pub mod Called
