-- The definitions that the contracts of forms, numbers and hexadecimal strings cite, and what document 02 says of them.
pub mod Bytes
pub mod Decimal
pub mod Hex
pub mod Form
pub mod Grammar
