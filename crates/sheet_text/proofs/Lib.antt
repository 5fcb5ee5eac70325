-- The laws of a sheet's text.
-- TextArray, TextLines: texts in their array, lines that fit.
-- TextSheet: the text of document 01's list of calls.
pub mod TextArray
pub mod TextLines
pub mod TextSheet
