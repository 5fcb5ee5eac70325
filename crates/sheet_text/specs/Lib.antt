-- The texts that the contracts of a sheet's title, its lines and a refusal cite.
pub mod Text
