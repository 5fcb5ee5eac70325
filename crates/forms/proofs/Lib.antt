-- The laws of forms, numbers and hexadecimal strings.
-- BytesLaws: bytes of a kind, and how many stand in front.
-- DecimalLaws: `decimal_exactly`, decimal numbers are read exactly where they are written.
-- HexLaws: `hex_exactly`, the same of hexadecimal strings.
-- FormLaws: `form_exactly`, the bracket reader accepts what document 02's grammar gives and nothing else.
-- StopLaws: `form_stops`, it stops at the first byte that cannot stand there.
-- Examples: digits, letters and depths in full.
-- FormSteps: what the proofs of the functions share.
pub mod BytesLaws
pub mod DecimalLaws
pub mod HexLaws
pub mod FormLaws
pub mod StopLaws
pub mod FormSteps
pub mod Examples
