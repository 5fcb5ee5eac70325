-- CallText: how document 02 writes variants, calls and lists of them. Line, List, Run: what the contracts cite.
pub mod CallText
pub mod Line
pub mod List
pub mod Run
