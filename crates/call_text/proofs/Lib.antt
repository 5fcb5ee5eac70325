-- The laws of call lists as text.
-- Claims: what document 02 says (2026-01), sentence by sentence. Examples: lines and files in full.
-- ShapeLaws, LineLaws: `read_exactly` and `variant_exactly`, which call and which variant a line stands for.
-- LinesLaws, FileLaws: `file-accepted`, `file_too_long` and `file_wrong`, what a file is read as.
-- RunLaws: `printed-list` and `printed-refusal`, what is printed.
-- TwelveAlone: no call of an engine answers with 12.
-- LineSteps, ListSteps, RunSteps: what the proofs of the functions share.
pub mod ShapeLaws
pub mod LineLaws
pub mod LinesLaws
pub mod FileLaws
pub mod TwelveAlone
pub mod LineSteps
pub mod ListSteps
pub mod RunSteps
pub mod RunLaws
pub mod Claims
pub mod Examples
